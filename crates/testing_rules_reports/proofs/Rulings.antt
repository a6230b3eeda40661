-- What the rules say where their words leave a doubt, computed from the definitions.
use Rattle.testing_install.specs.Installable.{are_installable}
use Rattle.std.specs.Prelude.{◌≡◌, refl, ℕ, List, [], ◌∷◌, codes}
use Rattle.std.specs.Fmt.{digits}
use Rattle.std.proofs.Common.{lit≤}
use Rattle.jiff_core.specs.declared.civil.date.Date.{Date}
use Rattle.jiff_core.specs.Calendar.{days_from_civil, day_count, days_of_years, days_of_months}
use Rattle.deb_version.specs.Order.{version_cmp}
use Rattle.deb_version.specs.Key.{key, key_cmp, blocks_key}
use Rattle.deb_version.specs.Text.{epoch_of, after_epoch, upstream_of, revision_of}
use Rattle.deb_control.specs.declared.binary.Binary.{Binary}
use Rattle.deb_control.specs.declared.relation.Alternative.{Alternative}
use Rattle.testing_rules_items.specs.declared.item.Urgency.TheVariants.{Critical}
use Rattle.testing_rules_items.specs.declared.item.Hint.TheVariants.{Easy, Remove}
use Rattle.testing_rules_items.specs.Words.{Text}
use Rattle.testing_rules_model.specs.Covered.{Covered, CoveredItem}
use Rattle.testing_rules_reports.proofs.Given.{march, lines, nothing_yet, binary_at, upload, build, hint, named, on, after, reports, update_lines}

abbrev day_1 : Date
day_1 = march 1 (lit≤ tt) (lit≤ tt)

abbrev day_2 : Date
day_2 = march 2 (lit≤ tt) (lit≤ tt)

abbrev new : ℕ → Text → CoveredItem
new n name = upload n name (codes "1") Critical day_1

-- a binary of another name than its source
abbrev binary_of : Text → Text → List (List Alternative) → Binary
binary_of name source clauses =
    record { name = name; version = codes "1"; architecture = codes "amd64"; source = source; source_version = codes "1"; clauses = clauses; provides = [] }

abbrev plain : Text → List (List Alternative) → Binary
plain name clauses = binary_of name name clauses

abbrev two_free : Covered
two_free = new 1 (codes "aa") ∷ new 2 (codes "bb") ∷ new 3 (codes "cc") ∷ build 1 (plain (codes "aa") (on (codes "bb") ∷ []) ∷ plain (codes "bb") [] ∷ plain (codes "cc") [] ∷ []) ∷ []

-- after a move the next single move is looked for behind it, not from the first name on
pub goes_on_after_the_last_move : update_lines 1 two_free nothing_yet day_1
    ≡ lines (codes "update 1 2025-03-01" ∷ codes "accept bb 1" ∷ codes "accept cc 1" ∷ codes "accept aa 1" ∷ [])
unfolding are_installable days_from_civil day_count days_of_years days_of_months digits version_cmp key key_cmp blocks_key epoch_of after_epoch upstream_of revision_of
goes_on_after_the_last_move = refl

abbrev one_first : Covered
one_first = new 1 (codes "aa") ∷ build 1 (plain (codes "aa") [] ∷ []) ∷ []

abbrev then_both : Covered
then_both = hint 1 (Easy (named (codes "aa") (codes "1") ∷ named (codes "bb") (codes "1") ∷ [])) ∷ new 2 (codes "bb") ∷ build 2 (plain (codes "bb") [] ∷ []) ∷ one_first

-- an item that testing has already is left out of a group
pub items_in_testing_are_left_out : update_lines 2 then_both (after one_first nothing_yet day_1) day_2
    ≡ lines (codes "update 2 2025-03-02" ∷ codes "easy 1 accept bb 1" ∷ [])
unfolding are_installable days_from_civil day_count days_of_years days_of_months digits version_cmp key key_cmp blocks_key epoch_of after_epoch upstream_of revision_of
items_in_testing_are_left_out = refl

-- and where all are, nothing is said
pub nothing_left_nothing_said : update_lines 3 then_both (after then_both (after one_first nothing_yet day_1) day_2) day_2
    ≡ lines (codes "update 3 2025-03-02" ∷ [])
unfolding are_installable days_from_civil day_count days_of_years days_of_months digits version_cmp key key_cmp blocks_key epoch_of after_epoch upstream_of revision_of
nothing_left_nothing_said = refl

abbrev removed_twice : Covered
removed_twice = hint 1 (Remove (named (codes "aa") (codes "1") ∷ named (codes "aa") (codes "1") ∷ [])) ∷ hint 2 (Remove (named (codes "aa") (codes "1") ∷ [])) ∷ one_first

-- a removal of what is no longer in testing says nothing
pub a_removal_is_done_once : update_lines 2 removed_twice (after one_first nothing_yet day_1) day_2
    ≡ lines (codes "update 2 2025-03-02" ∷ codes "remove 1 accept aa 1" ∷ [])
unfolding are_installable days_from_civil day_count days_of_years days_of_months digits version_cmp key key_cmp blocks_key epoch_of after_epoch upstream_of revision_of
a_removal_is_done_once = refl

abbrev two_broken : Covered
two_broken = new 1 (codes "app") ∷ build 1 (binary_of (codes "zz") (codes "app") (on (codes "nowhere") ∷ []) ∷ binary_of (codes "ab") (codes "app") (on (codes "nowhere") ∷ []) ∷ []) ∷ []

-- of several rows that fail the first by name is the offender
pub first_offender_by_name : update_lines 1 two_broken nothing_yet day_1
    ≡ lines (codes "update 1 2025-03-01" ∷ codes "wait app 1 uninstallable amd64 ab" ∷ [])
unfolding are_installable days_from_civil day_count days_of_years days_of_months digits version_cmp key key_cmp blocks_key epoch_of after_epoch upstream_of revision_of
first_offender_by_name = refl

abbrev with_all : Covered
with_all = new 1 (codes "aa") ∷ build 1 (plain (codes "aa") [] ∷ record { name = codes "doc"; version = codes "1"; architecture = codes "all"; source = codes "aa"; source_version = codes "1"; clauses = []; provides = [] } ∷ []) ∷ []

abbrev without_all : Covered
without_all = upload 2 (codes "aa") (codes "2") Critical day_1 ∷ build 2 (binary_at (codes "aa") (codes "2") (codes "amd64") [] [] ∷ []) ∷ with_all

-- rows of `all` count as those of one more architecture
pub missing_on_all : reports 2 without_all (after with_all nothing_yet day_1) day_2
    ≡ lines (codes "excuses 2 2025-03-02" ∷ codes "aa 1 2" ∷ codes " age 1 of 0" ∷ codes " missing on all" ∷ codes " not a candidate" ∷ codes "update 2 2025-03-02" ∷ codes "testing 2" ∷ codes "source aa 1" ∷ codes "binary amd64 aa 1 aa" ∷ codes "binary all doc 1 aa" ∷ [])
unfolding are_installable days_from_civil day_count days_of_years days_of_months digits version_cmp key key_cmp blocks_key epoch_of after_epoch upstream_of revision_of
missing_on_all = refl
