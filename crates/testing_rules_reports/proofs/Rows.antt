-- The worked rows, computed from the definitions.
use Rattle.testing_install.specs.Installable.{are_installable}
use Rattle.std.specs.Prelude.{◌≡◌, refl, [], ◌∷◌, ◌++◌, Some, None, codes, pos}
use Rattle.std.specs.Fmt.{digits}
use Rattle.std.proofs.Common.{lit≤}
use Rattle.jiff_core.specs.declared.civil.date.Date.{Date}
use Rattle.jiff_core.specs.Calendar.{days_from_civil, day_count, days_of_years, days_of_months}
use Rattle.deb_version.specs.Order.{version_cmp}
use Rattle.deb_version.specs.Key.{key, key_cmp, blocks_key}
use Rattle.deb_version.specs.Text.{epoch_of, after_epoch, upstream_of, revision_of}
use Rattle.deb_control.specs.Relations.{holds}
use Rattle.deb_control.specs.declared.relation.Op.TheVariants.{Below, AtLeast}
use Rattle.testing_rules_items.specs.declared.item.Urgency.TheVariants.{Low, Medium, High, Emergency, Critical}
use Rattle.testing_rules_items.specs.declared.item.Severity.TheVariants.{Serious}
use Rattle.testing_rules_items.specs.declared.item.Hint.TheVariants.{Block, BlockAll, Unblock, Easy, AgeDays, Remove}
use Rattle.testing_rules_model.specs.Suite.{Suite}
use Rattle.testing_rules_model.specs.Covered.{Covered}
use Rattle.testing_rules_reports.proofs.Given.{march, lines, nothing_yet, binary_at, upload, drop, build, bug, hint, unhint, delays, named, on, on_version, after, reports, update_lines}

abbrev foo_1 : Covered
foo_1 = upload 1 (codes "foo") (codes "1.0-1") Medium (march 1 (lit≤ tt) (lit≤ tt)) ∷ build 1 (binary_at (codes "foo") (codes "1.0-1") (codes "amd64") ([]) ([]) ∷ []) ∷ []

-- a source enters at the age that its urgency asks for
pub enters_at_its_age : reports 1 foo_1 nothing_yet (march 6 (lit≤ tt) (lit≤ tt))
    ≡ lines (codes "excuses 1 2025-03-06" ∷ codes "foo - 1.0-1" ∷ codes " age 5 of 5" ∷ codes " candidate" ∷ codes "update 1 2025-03-06" ∷ codes "accept foo 1.0-1" ∷ codes "testing 1" ∷ codes "source foo 1.0-1" ∷ codes "binary amd64 foo 1.0-1 foo" ∷ [])
unfolding are_installable days_from_civil day_count days_of_years days_of_months digits version_cmp key key_cmp blocks_key epoch_of after_epoch upstream_of revision_of
enters_at_its_age = refl

-- a day earlier it is too young
pub is_too_young : reports 1 foo_1 nothing_yet (march 5 (lit≤ tt) (lit≤ tt))
    ≡ lines (codes "excuses 1 2025-03-05" ∷ codes "foo - 1.0-1" ∷ codes " age 4 of 5" ∷ codes " too young" ∷ codes " not a candidate" ∷ codes "update 1 2025-03-05" ∷ codes "testing 1" ∷ [])
unfolding are_installable days_from_civil day_count days_of_years days_of_months digits version_cmp key key_cmp blocks_key epoch_of after_epoch upstream_of revision_of
is_too_young = refl

abbrev testing_1 : Suite
testing_1 = after foo_1 nothing_yet (march 6 (lit≤ tt) (lit≤ tt))

abbrev foo_2 : Covered
foo_2 = upload 2 (codes "foo") (codes "1.1-1") High (march 7 (lit≤ tt) (lit≤ tt)) ∷ upload 3 (codes "foo") (codes "1.2-1") Low (march 8 (lit≤ tt) (lit≤ tt)) ∷ build 2 (binary_at (codes "foo") (codes "1.2-1") (codes "amd64") ([]) ([]) ∷ []) ∷ foo_1

-- the most urgent upload since testing counts
pub most_urgent_counts : reports 2 foo_2 testing_1 (march 10 (lit≤ tt) (lit≤ tt))
    ≡ lines (codes "excuses 2 2025-03-10" ∷ codes "foo 1.0-1 1.2-1" ∷ codes " age 2 of 2" ∷ codes " candidate" ∷ codes "update 2 2025-03-10" ∷ codes "accept foo 1.2-1" ∷ codes "testing 2" ∷ codes "source foo 1.2-1" ∷ codes "binary amd64 foo 1.2-1 foo" ∷ [])
unfolding are_installable days_from_civil day_count days_of_years days_of_months digits version_cmp key key_cmp blocks_key epoch_of after_epoch upstream_of revision_of
most_urgent_counts = refl

abbrev with_unversioned_provision : Covered
with_unversioned_provision = upload 1 (codes "app") (codes "1") Critical (march 1 (lit≤ tt) (lit≤ tt)) ∷ upload 2 (codes "lib") (codes "1") Critical (march 1 (lit≤ tt) (lit≤ tt)) ∷ build 1 (binary_at (codes "app") (codes "1") (codes "amd64") (on_version (codes "virt") AtLeast (codes "1") ∷ []) ([]) ∷ binary_at (codes "lib") (codes "1") (codes "amd64") ([]) (record { name = codes "virt"; version = None } ∷ []) ∷ []) ∷ []

pub unversioned_provision : update_lines 1 with_unversioned_provision nothing_yet (march 1 (lit≤ tt) (lit≤ tt))
    ≡ lines (codes "update 1 2025-03-01" ∷ codes "accept lib 1" ∷ codes "wait app 1 uninstallable amd64 app" ∷ [])
unfolding are_installable days_from_civil day_count days_of_years days_of_months digits version_cmp key key_cmp blocks_key epoch_of after_epoch upstream_of revision_of
unversioned_provision = refl

abbrev with_versioned_provision : Covered
with_versioned_provision = upload 1 (codes "app") (codes "1") Critical (march 1 (lit≤ tt) (lit≤ tt)) ∷ upload 2 (codes "lib") (codes "1") Critical (march 1 (lit≤ tt) (lit≤ tt)) ∷ build 1 (binary_at (codes "app") (codes "1") (codes "amd64") (on_version (codes "virt") AtLeast (codes "1") ∷ []) ([]) ∷ binary_at (codes "lib") (codes "1") (codes "amd64") ([]) (record { name = codes "virt"; version = Some (codes "1") } ∷ []) ∷ []) ∷ []

pub versioned_provision : update_lines 1 with_versioned_provision nothing_yet (march 1 (lit≤ tt) (lit≤ tt))
    ≡ lines (codes "update 1 2025-03-01" ∷ codes "accept lib 1" ∷ codes "accept app 1" ∷ [])
unfolding are_installable days_from_civil day_count days_of_years days_of_months digits version_cmp key key_cmp blocks_key epoch_of after_epoch upstream_of revision_of holds
versioned_provision = refl

abbrev pair : Covered
pair = upload 1 (codes "aa") (codes "1") Critical (march 1 (lit≤ tt) (lit≤ tt)) ∷ upload 2 (codes "bb") (codes "1") Critical (march 1 (lit≤ tt) (lit≤ tt)) ∷ build 1 (binary_at (codes "aa") (codes "1") (codes "amd64") (on (codes "bb") ∷ []) ([]) ∷ binary_at (codes "bb") (codes "1") (codes "amd64") (on (codes "aa") ∷ []) ([]) ∷ []) ∷ []

-- two sources that need each other wait
pub pair_waits : update_lines 1 pair nothing_yet (march 1 (lit≤ tt) (lit≤ tt))
    ≡ lines (codes "update 1 2025-03-01" ∷ codes "wait aa 1 uninstallable amd64 aa" ∷ codes "wait bb 1 uninstallable amd64 bb" ∷ [])
unfolding are_installable days_from_civil day_count days_of_years days_of_months digits version_cmp key key_cmp blocks_key epoch_of after_epoch upstream_of revision_of
pair_waits = refl

abbrev easy_pair : Covered
easy_pair = hint 1 (Easy (named (codes "aa") (codes "1") ∷ named (codes "bb") (codes "1") ∷ [])) ∷ pair

-- and move by an easy hint
pub pair_moves_by_hint : update_lines 1 easy_pair nothing_yet (march 1 (lit≤ tt) (lit≤ tt))
    ≡ lines (codes "update 1 2025-03-01" ∷ codes "easy 1 accept aa 1 bb 1" ∷ [])
unfolding are_installable days_from_civil day_count days_of_years days_of_months digits version_cmp key key_cmp blocks_key epoch_of after_epoch upstream_of revision_of
pair_moves_by_hint = refl

abbrev lib_and_app : Covered
lib_and_app = upload 1 (codes "app") (codes "1") Critical (march 1 (lit≤ tt) (lit≤ tt)) ∷ upload 2 (codes "lib") (codes "1") Critical (march 1 (lit≤ tt) (lit≤ tt)) ∷ build 1 (binary_at (codes "app") (codes "1") (codes "amd64") (on (codes "lib") ∷ []) ([]) ∷ binary_at (codes "lib") (codes "1") (codes "amd64") ([]) ([]) ∷ []) ∷ []

-- a removal that would break a row is refused
pub removal_refused : reports 2 (hint 1 (Remove (named (codes "lib") (codes "1") ∷ [])) ∷ lib_and_app) (after lib_and_app nothing_yet (march 1 (lit≤ tt) (lit≤ tt))) (march 2 (lit≤ tt) (lit≤ tt))
    ≡ lines (codes "excuses 2 2025-03-02" ∷ codes "update 2 2025-03-02" ∷ codes "remove 1 refuse lib 1 uninstallable amd64 app" ∷ codes "testing 2" ∷ codes "source app 1" ∷ codes "source lib 1" ∷ codes "binary amd64 app 1 app" ∷ codes "binary amd64 lib 1 lib" ∷ [])
unfolding are_installable days_from_civil day_count days_of_years days_of_months digits version_cmp key key_cmp blocks_key epoch_of after_epoch upstream_of revision_of
removal_refused = refl

abbrev both_archs : Covered
both_archs = build 2 (binary_at (codes "foo") (codes "1.0-1") (codes "arm64") ([]) ([]) ∷ []) ∷ foo_1

abbrev one_arch_later : Covered
one_arch_later = upload 2 (codes "foo") (codes "1.1-1") Medium (march 7 (lit≤ tt) (lit≤ tt)) ∷ build 3 (binary_at (codes "foo") (codes "1.1-1") (codes "amd64") ([]) ([]) ∷ []) ∷ both_archs

-- an architecture whose row is of an older version is missing
pub missing_build : reports 2 one_arch_later (after both_archs nothing_yet (march 6 (lit≤ tt) (lit≤ tt))) (march 12 (lit≤ tt) (lit≤ tt))
    ≡ lines (codes "excuses 2 2025-03-12" ∷ codes "foo 1.0-1 1.1-1" ∷ codes " age 5 of 5" ∷ codes " missing on arm64" ∷ codes " not a candidate" ∷ codes "update 2 2025-03-12" ∷ codes "testing 2" ∷ codes "source foo 1.0-1" ∷ codes "binary amd64 foo 1.0-1 foo" ∷ codes "binary arm64 foo 1.0-1 foo" ∷ [])
unfolding are_installable days_from_civil day_count days_of_years days_of_months digits version_cmp key key_cmp blocks_key epoch_of after_epoch upstream_of revision_of
missing_build = refl

-- until it is dropped
pub dropped_build : reports 3 (drop 3 (codes "foo") (codes "arm64") (codes "1.0-1") ∷ one_arch_later) (after both_archs nothing_yet (march 6 (lit≤ tt) (lit≤ tt))) (march 12 (lit≤ tt) (lit≤ tt))
    ≡ lines (codes "excuses 3 2025-03-12" ∷ codes "foo 1.0-1 1.1-1" ∷ codes " age 5 of 5" ∷ codes " candidate" ∷ codes "update 3 2025-03-12" ∷ codes "accept foo 1.1-1" ∷ codes "testing 3" ∷ codes "source foo 1.1-1" ∷ codes "binary amd64 foo 1.1-1 foo" ∷ [])
unfolding are_installable days_from_civil day_count days_of_years days_of_months digits version_cmp key key_cmp blocks_key epoch_of after_epoch upstream_of revision_of
dropped_build = refl

abbrev same_versions : Covered
same_versions = upload 1 (codes "foo") (codes "1.0") Medium (march 1 (lit≤ tt) (lit≤ tt)) ∷ upload 2 (codes "foo") (codes "1.0-0") Medium (march 1 (lit≤ tt) (lit≤ tt)) ∷ []

abbrev same_versions_turned : Covered
same_versions_turned = upload 2 (codes "foo") (codes "1.0-0") Medium (march 1 (lit≤ tt) (lit≤ tt)) ∷ upload 1 (codes "foo") (codes "1.0") Medium (march 1 (lit≤ tt) (lit≤ tt)) ∷ []

pub smallest_of_same_versions : reports 1 same_versions nothing_yet (march 1 (lit≤ tt) (lit≤ tt))
    ≡ lines (codes "excuses 1 2025-03-01" ∷ codes "foo - 1.0" ∷ codes " age 0 of 5" ∷ codes " too young" ∷ codes " no binaries" ∷ codes " not a candidate" ∷ codes "update 1 2025-03-01" ∷ codes "testing 1" ∷ [])
unfolding are_installable days_from_civil day_count days_of_years days_of_months digits version_cmp key key_cmp blocks_key epoch_of after_epoch upstream_of revision_of
smallest_of_same_versions = refl

pub smallest_of_same_versions_turned : reports 1 same_versions_turned nothing_yet (march 1 (lit≤ tt) (lit≤ tt))
    ≡ lines (codes "excuses 1 2025-03-01" ∷ codes "foo - 1.0" ∷ codes " age 0 of 5" ∷ codes " too young" ∷ codes " no binaries" ∷ codes " not a candidate" ∷ codes "update 1 2025-03-01" ∷ codes "testing 1" ∷ [])
unfolding are_installable days_from_civil day_count days_of_years days_of_months digits version_cmp key key_cmp blocks_key epoch_of after_epoch upstream_of revision_of
smallest_of_same_versions_turned = refl

abbrev foo_emergency : Covered
foo_emergency = upload 2 (codes "foo") (codes "1.1-1") Emergency (march 7 (lit≤ tt) (lit≤ tt)) ∷ build 2 (binary_at (codes "foo") (codes "1.1-1") (codes "amd64") ([]) ([]) ∷ []) ∷ foo_1

pub new_bug : reports 2 (bug 1 7 (codes "foo") Serious (Some (codes "1.1-1")) None ∷ foo_emergency) testing_1 (march 7 (lit≤ tt) (lit≤ tt))
    ≡ lines (codes "excuses 2 2025-03-07" ∷ codes "foo 1.0-1 1.1-1" ∷ codes " age 0 of 0" ∷ codes " new bug 7" ∷ codes " not a candidate" ∷ codes "update 2 2025-03-07" ∷ codes "testing 2" ∷ codes "source foo 1.0-1" ∷ codes "binary amd64 foo 1.0-1 foo" ∷ [])
unfolding are_installable days_from_civil day_count days_of_years days_of_months digits version_cmp key key_cmp blocks_key epoch_of after_epoch upstream_of revision_of
new_bug = refl

pub old_bug : reports 2 (bug 1 7 (codes "foo") Serious (Some (codes "1.0-1")) None ∷ foo_emergency) testing_1 (march 7 (lit≤ tt) (lit≤ tt))
    ≡ lines (codes "excuses 2 2025-03-07" ∷ codes "foo 1.0-1 1.1-1" ∷ codes " age 0 of 0" ∷ codes " candidate" ∷ codes "update 2 2025-03-07" ∷ codes "accept foo 1.1-1" ∷ codes "testing 2" ∷ codes "source foo 1.1-1" ∷ codes "binary amd64 foo 1.1-1 foo" ∷ [])
unfolding are_installable days_from_civil day_count days_of_years days_of_months digits version_cmp key key_cmp blocks_key epoch_of after_epoch upstream_of revision_of
old_bug = refl

pub fixed_bug : reports 2 (bug 1 7 (codes "foo") Serious (Some (codes "1.0-1")) (Some (codes "1.1-1")) ∷ foo_emergency) testing_1 (march 7 (lit≤ tt) (lit≤ tt))
    ≡ lines (codes "excuses 2 2025-03-07" ∷ codes "foo 1.0-1 1.1-1" ∷ codes " age 0 of 0" ∷ codes " candidate" ∷ codes "update 2 2025-03-07" ∷ codes "accept foo 1.1-1" ∷ codes "testing 2" ∷ codes "source foo 1.1-1" ∷ codes "binary amd64 foo 1.1-1 foo" ∷ [])
unfolding are_installable days_from_civil day_count days_of_years days_of_months digits version_cmp key key_cmp blocks_key epoch_of after_epoch upstream_of revision_of
fixed_bug = refl

pub blocked : reports 1 (hint 1 (Block ((codes "foo") ∷ [])) ∷ foo_1) nothing_yet (march 6 (lit≤ tt) (lit≤ tt))
    ≡ lines (codes "excuses 1 2025-03-06" ∷ codes "foo - 1.0-1" ∷ codes " age 5 of 5" ∷ codes " blocked" ∷ codes " not a candidate" ∷ codes "update 1 2025-03-06" ∷ codes "testing 1" ∷ [])
unfolding are_installable days_from_civil day_count days_of_years days_of_months digits version_cmp key key_cmp blocks_key epoch_of after_epoch upstream_of revision_of
blocked = refl

pub unblocked : reports 1 (hint 1 (Block ((codes "foo") ∷ [])) ∷ hint 2 (Unblock (named (codes "foo") (codes "1.0-1") ∷ [])) ∷ foo_1) nothing_yet (march 6 (lit≤ tt) (lit≤ tt))
    ≡ lines (codes "excuses 1 2025-03-06" ∷ codes "foo - 1.0-1" ∷ codes " age 5 of 5" ∷ codes " candidate" ∷ codes "update 1 2025-03-06" ∷ codes "accept foo 1.0-1" ∷ codes "testing 1" ∷ codes "source foo 1.0-1" ∷ codes "binary amd64 foo 1.0-1 foo" ∷ [])
unfolding are_installable days_from_civil day_count days_of_years days_of_months digits version_cmp key key_cmp blocks_key epoch_of after_epoch upstream_of revision_of
unblocked = refl

pub age_by_hint : reports 1 (hint 1 (AgeDays 10 (named (codes "foo") (codes "1.0-1") ∷ [])) ∷ foo_1) nothing_yet (march 6 (lit≤ tt) (lit≤ tt))
    ≡ lines (codes "excuses 1 2025-03-06" ∷ codes "foo - 1.0-1" ∷ codes " age 5 of 10" ∷ codes " too young" ∷ codes " not a candidate" ∷ codes "update 1 2025-03-06" ∷ codes "testing 1" ∷ [])
unfolding are_installable days_from_civil day_count days_of_years days_of_months digits version_cmp key key_cmp blocks_key epoch_of after_epoch upstream_of revision_of
age_by_hint = refl

pub age_by_last_hint : reports 1 (hint 1 (AgeDays 10 (named (codes "foo") (codes "1.0-1") ∷ [])) ∷ hint 2 (AgeDays 0 (named (codes "foo") (codes "1.00-1") ∷ [])) ∷ foo_1) nothing_yet (march 6 (lit≤ tt) (lit≤ tt))
    ≡ lines (codes "excuses 1 2025-03-06" ∷ codes "foo - 1.0-1" ∷ codes " age 5 of 0" ∷ codes " candidate" ∷ codes "update 1 2025-03-06" ∷ codes "accept foo 1.0-1" ∷ codes "testing 1" ∷ codes "source foo 1.0-1" ∷ codes "binary amd64 foo 1.0-1 foo" ∷ [])
unfolding are_installable days_from_civil day_count days_of_years days_of_months digits version_cmp key key_cmp blocks_key epoch_of after_epoch upstream_of revision_of
age_by_last_hint = refl

pub age_by_last_standing_hint : reports 1 (hint 2 (AgeDays 0 (named (codes "foo") (codes "1.00-1") ∷ [])) ∷ hint 1 (AgeDays 10 (named (codes "foo") (codes "1.0-1") ∷ [])) ∷ unhint 3 2 ∷ foo_1) nothing_yet (march 6 (lit≤ tt) (lit≤ tt))
    ≡ lines (codes "excuses 1 2025-03-06" ∷ codes "foo - 1.0-1" ∷ codes " age 5 of 10" ∷ codes " too young" ∷ codes " not a candidate" ∷ codes "update 1 2025-03-06" ∷ codes "testing 1" ∷ [])
unfolding are_installable days_from_civil day_count days_of_years days_of_months digits version_cmp key key_cmp blocks_key epoch_of after_epoch upstream_of revision_of
age_by_last_standing_hint = refl

abbrev february_20 : Date
february_20 = record { year = pos 2025; month = 2; day = 20; year_in = (record { le = tt }, record { le = tt }); month_in = (lit≤ tt, lit≤ tt); day_in = (lit≤ tt, lit≤ tt) }

pub age_is_never_negative : reports 1 foo_1 nothing_yet february_20
    ≡ lines (codes "excuses 1 2025-02-20" ∷ codes "foo - 1.0-1" ∷ codes " age 0 of 5" ∷ codes " too young" ∷ codes " not a candidate" ∷ codes "update 1 2025-02-20" ∷ codes "testing 1" ∷ [])
unfolding are_installable days_from_civil day_count days_of_years days_of_months digits version_cmp key key_cmp blocks_key epoch_of after_epoch upstream_of revision_of
age_is_never_negative = refl

abbrev many_reasons : Covered
many_reasons = upload 1 (codes "foo") (codes "1.0-1") Low (march 1 (lit≤ tt) (lit≤ tt)) ∷ build 1 (binary_at (codes "foo") (codes "1.0-1") (codes "amd64") ([]) ([]) ∷ []) ∷ upload 2 (codes "foo") (codes "1.1-1") Medium (march 4 (lit≤ tt) (lit≤ tt)) ∷ hint 1 (Block ((codes "foo") ∷ [])) ∷ []

pub reasons_in_order : reports 1 many_reasons nothing_yet (march 6 (lit≤ tt) (lit≤ tt))
    ≡ lines (codes "excuses 1 2025-03-06" ∷ codes "foo - 1.1-1" ∷ codes " age 2 of 5" ∷ codes " too young" ∷ codes " no binaries" ∷ codes " missing on amd64" ∷ codes " blocked" ∷ codes " not a candidate" ∷ codes "update 1 2025-03-06" ∷ codes "testing 1" ∷ [])
unfolding are_installable days_from_civil day_count days_of_years days_of_months digits version_cmp key key_cmp blocks_key epoch_of after_epoch upstream_of revision_of
reasons_in_order = refl

abbrev circle : Covered
circle = upload 1 (codes "aa") (codes "1") Critical (march 1 (lit≤ tt) (lit≤ tt)) ∷ upload 2 (codes "bb") (codes "1") Critical (march 1 (lit≤ tt) (lit≤ tt)) ∷ upload 3 (codes "cc") (codes "1") Critical (march 1 (lit≤ tt) (lit≤ tt)) ∷ build 1 (binary_at (codes "aa") (codes "1") (codes "amd64") (on (codes "cc") ∷ []) ([]) ∷ binary_at (codes "bb") (codes "1") (codes "amd64") (on (codes "aa") ∷ []) ([]) ∷ binary_at (codes "cc") (codes "1") (codes "amd64") ([]) ([]) ∷ []) ∷ []

-- single moves go round in the order of names
pub moves_in_a_circle : update_lines 1 circle nothing_yet (march 1 (lit≤ tt) (lit≤ tt))
    ≡ lines (codes "update 1 2025-03-01" ∷ codes "accept cc 1" ∷ codes "accept aa 1" ∷ codes "accept bb 1" ∷ [])
unfolding are_installable days_from_civil day_count days_of_years days_of_months digits version_cmp key key_cmp blocks_key epoch_of after_epoch upstream_of revision_of
moves_in_a_circle = refl

abbrev aa_alone : Covered
aa_alone = hint 1 (Easy (named (codes "aa") (codes "1") ∷ named (codes "zz") (codes "1") ∷ [])) ∷ upload 1 (codes "aa") (codes "1") Critical (march 1 (lit≤ tt) (lit≤ tt)) ∷ build 1 (binary_at (codes "aa") (codes "1") (codes "amd64") ([]) ([]) ∷ []) ∷ []

pub easy_without_candidate : update_lines 1 aa_alone nothing_yet (march 1 (lit≤ tt) (lit≤ tt))
    ≡ lines (codes "update 1 2025-03-01" ∷ codes "easy 1 refuse zz/1 not a candidate" ∷ codes "accept aa 1" ∷ [])
unfolding are_installable days_from_civil day_count days_of_years days_of_months digits version_cmp key key_cmp blocks_key epoch_of after_epoch upstream_of revision_of
easy_without_candidate = refl

abbrev easy_broken : Covered
easy_broken = hint 1 (Easy (named (codes "aa") (codes "1") ∷ named (codes "bb") (codes "1") ∷ [])) ∷ upload 1 (codes "aa") (codes "1") Critical (march 1 (lit≤ tt) (lit≤ tt)) ∷ upload 2 (codes "bb") (codes "1") Critical (march 1 (lit≤ tt) (lit≤ tt)) ∷ build 1 (binary_at (codes "aa") (codes "1") (codes "amd64") (on (codes "nowhere") ∷ []) ([]) ∷ binary_at (codes "bb") (codes "1") (codes "amd64") ([]) ([]) ∷ []) ∷ []

pub easy_refused : update_lines 1 easy_broken nothing_yet (march 1 (lit≤ tt) (lit≤ tt))
    ≡ lines (codes "update 1 2025-03-01" ∷ codes "easy 1 refuse uninstallable amd64 aa" ∷ codes "accept bb 1" ∷ codes "wait aa 1 uninstallable amd64 aa" ∷ [])
unfolding are_installable days_from_civil day_count days_of_years days_of_months digits version_cmp key key_cmp blocks_key epoch_of after_epoch upstream_of revision_of
easy_refused = refl

abbrev tool_and_app : Covered
tool_and_app = upload 1 (codes "app") (codes "1") Critical (march 1 (lit≤ tt) (lit≤ tt)) ∷ upload 2 (codes "tool") (codes "1") Critical (march 1 (lit≤ tt) (lit≤ tt)) ∷ build 1 (binary_at (codes "app") (codes "1") (codes "amd64") (on (codes "tool") ∷ []) ([]) ∷ binary_at (codes "app") (codes "1") (codes "arm64") (on (codes "tool") ∷ []) ([]) ∷ binary_at (codes "tool") (codes "1") (codes "amd64") ([]) ([]) ∷ []) ∷ []

pub fails_on_the_other_arch : update_lines 1 tool_and_app nothing_yet (march 1 (lit≤ tt) (lit≤ tt))
    ≡ lines (codes "update 1 2025-03-01" ∷ codes "accept tool 1" ∷ codes "wait app 1 uninstallable arm64 app" ∷ [])
unfolding are_installable days_from_civil day_count days_of_years days_of_months digits version_cmp key key_cmp blocks_key epoch_of after_epoch upstream_of revision_of
fails_on_the_other_arch = refl

abbrev tool_and_app_all : Covered
tool_and_app_all = upload 1 (codes "app") (codes "1") Critical (march 1 (lit≤ tt) (lit≤ tt)) ∷ upload 2 (codes "tool") (codes "1") Critical (march 1 (lit≤ tt) (lit≤ tt)) ∷ build 1 (binary_at (codes "app") (codes "1") (codes "all") (on (codes "tool") ∷ []) ([]) ∷ binary_at (codes "tool") (codes "1") (codes "amd64") ([]) ([]) ∷ []) ∷ []

pub all_is_watched_on_the_first_arch : reports 1 tool_and_app_all nothing_yet (march 1 (lit≤ tt) (lit≤ tt))
    ≡ lines (codes "excuses 1 2025-03-01" ∷ codes "app - 1" ∷ codes " age 0 of 0" ∷ codes " candidate" ∷ codes "tool - 1" ∷ codes " age 0 of 0" ∷ codes " candidate" ∷ codes "update 1 2025-03-01" ∷ codes "accept tool 1" ∷ codes "accept app 1" ∷ codes "testing 1" ∷ codes "source app 1" ∷ codes "source tool 1" ∷ codes "binary amd64 tool 1 tool" ∷ codes "binary all app 1 app" ∷ [])
unfolding are_installable days_from_civil day_count days_of_years days_of_months digits version_cmp key key_cmp blocks_key epoch_of after_epoch upstream_of revision_of
all_is_watched_on_the_first_arch = refl

abbrev lib_below_2 : Covered
lib_below_2 = upload 1 (codes "app") (codes "1") Critical (march 1 (lit≤ tt) (lit≤ tt)) ∷ upload 2 (codes "lib") (codes "1") Critical (march 1 (lit≤ tt) (lit≤ tt)) ∷ build 1 (binary_at (codes "app") (codes "1") (codes "amd64") (on_version (codes "lib") Below (codes "2") ∷ []) ([]) ∷ binary_at (codes "lib") (codes "1") (codes "amd64") ([]) ([]) ∷ []) ∷ []

pub may_not_break_another : update_lines 2 (upload 3 (codes "lib") (codes "2") Critical (march 1 (lit≤ tt) (lit≤ tt)) ∷ build 2 (binary_at (codes "lib") (codes "2") (codes "amd64") ([]) ([]) ∷ []) ∷ lib_below_2) (after lib_below_2 nothing_yet (march 1 (lit≤ tt) (lit≤ tt))) (march 2 (lit≤ tt) (lit≤ tt))
    ≡ lines (codes "update 2 2025-03-02" ∷ codes "wait lib 2 uninstallable amd64 app" ∷ [])
unfolding are_installable days_from_civil day_count days_of_years days_of_months digits version_cmp key key_cmp blocks_key epoch_of after_epoch upstream_of revision_of holds
may_not_break_another = refl

pub removal_done : reports 2 (hint 1 (Remove (named (codes "foo") (codes "1.0-1") ∷ [])) ∷ foo_1) testing_1 (march 7 (lit≤ tt) (lit≤ tt))
    ≡ lines (codes "excuses 2 2025-03-07" ∷ codes "update 2 2025-03-07" ∷ codes "remove 1 accept foo 1.0-1" ∷ codes "testing 2" ∷ [])
unfolding are_installable days_from_civil day_count days_of_years days_of_months digits version_cmp key key_cmp blocks_key epoch_of after_epoch upstream_of revision_of
removal_done = refl

pub removal_keeps_out : reports 3 (hint 1 (Remove (named (codes "foo") (codes "1.0-1") ∷ [])) ∷ foo_1) (after (hint 1 (Remove (named (codes "foo") (codes "1.0-1") ∷ [])) ∷ foo_1) testing_1 (march 7 (lit≤ tt) (lit≤ tt))) (march 7 (lit≤ tt) (lit≤ tt))
    ≡ lines (codes "excuses 3 2025-03-07" ∷ codes "foo - 1.0-1" ∷ codes " age 6 of 5" ∷ codes " removal asked" ∷ codes " not a candidate" ∷ codes "update 3 2025-03-07" ∷ codes "testing 3" ∷ [])
unfolding are_installable days_from_civil day_count days_of_years days_of_months digits version_cmp key key_cmp blocks_key epoch_of after_epoch upstream_of revision_of
removal_keeps_out = refl

pub comes_back : reports 4 (unhint 2 1 ∷ hint 1 (Remove (named (codes "foo") (codes "1.0-1") ∷ [])) ∷ foo_1) (after (hint 1 (Remove (named (codes "foo") (codes "1.0-1") ∷ [])) ∷ foo_1) testing_1 (march 7 (lit≤ tt) (lit≤ tt))) (march 7 (lit≤ tt) (lit≤ tt))
    ≡ lines (codes "excuses 4 2025-03-07" ∷ codes "foo - 1.0-1" ∷ codes " age 6 of 5" ∷ codes " candidate" ∷ codes "update 4 2025-03-07" ∷ codes "accept foo 1.0-1" ∷ codes "testing 4" ∷ codes "source foo 1.0-1" ∷ codes "binary amd64 foo 1.0-1 foo" ∷ [])
unfolding are_installable days_from_civil day_count days_of_years days_of_months digits version_cmp key key_cmp blocks_key epoch_of after_epoch upstream_of revision_of
comes_back = refl

-- a message on delays sets the days of each urgency
pub age_by_delays : reports 1 (delays 1 20 6 3 1 ∷ foo_1) nothing_yet (march 6 (lit≤ tt) (lit≤ tt))
    ≡ lines (codes "excuses 1 2025-03-06" ∷ codes "foo - 1.0-1" ∷ codes " age 5 of 6" ∷ codes " too young" ∷ codes " not a candidate" ∷ codes "update 1 2025-03-06" ∷ codes "testing 1" ∷ [])
unfolding are_installable days_from_civil day_count days_of_years days_of_months digits version_cmp key key_cmp blocks_key epoch_of after_epoch upstream_of revision_of
age_by_delays = refl

-- the last one counts, whichever came first
pub age_by_last_delays : reports 1 (delays 2 20 4 3 0 ∷ delays 1 20 6 3 1 ∷ foo_1) nothing_yet (march 6 (lit≤ tt) (lit≤ tt))
    ≡ lines (codes "excuses 1 2025-03-06" ∷ codes "foo - 1.0-1" ∷ codes " age 5 of 4" ∷ codes " candidate" ∷ codes "update 1 2025-03-06" ∷ codes "accept foo 1.0-1" ∷ codes "testing 1" ∷ codes "source foo 1.0-1" ∷ codes "binary amd64 foo 1.0-1 foo" ∷ [])
unfolding are_installable days_from_civil day_count days_of_years days_of_months digits version_cmp key key_cmp blocks_key epoch_of after_epoch upstream_of revision_of
age_by_last_delays = refl

pub age_by_last_delays_turned : reports 1 (delays 1 20 6 3 1 ∷ foo_1 ++ delays 2 20 4 3 0 ∷ []) nothing_yet (march 6 (lit≤ tt) (lit≤ tt))
    ≡ lines (codes "excuses 1 2025-03-06" ∷ codes "foo - 1.0-1" ∷ codes " age 5 of 4" ∷ codes " candidate" ∷ codes "update 1 2025-03-06" ∷ codes "accept foo 1.0-1" ∷ codes "testing 1" ∷ codes "source foo 1.0-1" ∷ codes "binary amd64 foo 1.0-1 foo" ∷ [])
unfolding are_installable days_from_civil day_count days_of_years days_of_months digits version_cmp key key_cmp blocks_key epoch_of after_epoch upstream_of revision_of
age_by_last_delays_turned = refl

-- and a hint on the source counts before them
pub hint_before_delays : reports 1 (hint 3 (AgeDays 9 (named (codes "foo") (codes "1.0-1") ∷ [])) ∷ delays 1 20 6 3 1 ∷ delays 2 20 4 3 0 ∷ foo_1) nothing_yet (march 6 (lit≤ tt) (lit≤ tt))
    ≡ lines (codes "excuses 1 2025-03-06" ∷ codes "foo - 1.0-1" ∷ codes " age 5 of 9" ∷ codes " too young" ∷ codes " not a candidate" ∷ codes "update 1 2025-03-06" ∷ codes "testing 1" ∷ [])
unfolding are_installable days_from_civil day_count days_of_years days_of_months digits version_cmp key key_cmp blocks_key epoch_of after_epoch upstream_of revision_of
hint_before_delays = refl

-- all sources are kept out
pub all_blocked : reports 1 (hint 1 BlockAll ∷ foo_1) nothing_yet (march 6 (lit≤ tt) (lit≤ tt))
    ≡ lines (codes "excuses 1 2025-03-06" ∷ codes "foo - 1.0-1" ∷ codes " age 5 of 5" ∷ codes " blocked" ∷ codes " not a candidate" ∷ codes "update 1 2025-03-06" ∷ codes "testing 1" ∷ [])
unfolding are_installable days_from_civil day_count days_of_years days_of_months digits version_cmp key key_cmp blocks_key epoch_of after_epoch upstream_of revision_of
all_blocked = refl

pub all_blocked_but_one : reports 1 (hint 1 BlockAll ∷ hint 2 (Unblock (named (codes "foo") (codes "1.0-1") ∷ [])) ∷ foo_1) nothing_yet (march 6 (lit≤ tt) (lit≤ tt))
    ≡ lines (codes "excuses 1 2025-03-06" ∷ codes "foo - 1.0-1" ∷ codes " age 5 of 5" ∷ codes " candidate" ∷ codes "update 1 2025-03-06" ∷ codes "accept foo 1.0-1" ∷ codes "testing 1" ∷ codes "source foo 1.0-1" ∷ codes "binary amd64 foo 1.0-1 foo" ∷ [])
unfolding are_installable days_from_civil day_count days_of_years days_of_months digits version_cmp key key_cmp blocks_key epoch_of after_epoch upstream_of revision_of
all_blocked_but_one = refl

pub all_let_in_again : reports 1 (hint 1 BlockAll ∷ unhint 2 1 ∷ foo_1) nothing_yet (march 6 (lit≤ tt) (lit≤ tt))
    ≡ lines (codes "excuses 1 2025-03-06" ∷ codes "foo - 1.0-1" ∷ codes " age 5 of 5" ∷ codes " candidate" ∷ codes "update 1 2025-03-06" ∷ codes "accept foo 1.0-1" ∷ codes "testing 1" ∷ codes "source foo 1.0-1" ∷ codes "binary amd64 foo 1.0-1 foo" ∷ [])
unfolding are_installable days_from_civil day_count days_of_years days_of_months digits version_cmp key key_cmp blocks_key epoch_of after_epoch upstream_of revision_of
all_let_in_again = refl
