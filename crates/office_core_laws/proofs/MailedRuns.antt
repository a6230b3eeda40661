-- Runs behind a check, and behind mail of what is due.
use Rattle.std.specs.Prelude.{ℕ, ◌+◌, ◌++◌, List, [], ◌∷◌, Contains, codes, decimal, flat_map}
use Rattle.std.specs.FinMap.{entries, entries_sorted, find}
use Rattle.std.proofs.Common.{◌≡◌, ◌⊎◌, sym, ap, ◌∙◌, inl, inr}
use Rattle.std.proofs.lemmas.Option.{same_Some}
use Rattle.archive_plan.specs.declared.items.Item.{Item}
use Rattle.archive_plan.specs.declared.sync.Due.{Due}
use Rattle.archive_plan.specs.Sync.{IsSync}
use Rattle.testing_rules_items.specs.Archs.{IsArchs}
use Rattle.testing_rules_items.specs.Words.{Text}
use Rattle.testing_rules_model.specs.declared.suite.RowIn.{RowIn}
use Rattle.testing_rules_model.specs.Covered.{Covered}
use Rattle.testing_rules_model.specs.Moves.{as_source}
use Rattle.testing_rules_model.specs.SameMessages.{HasOneOfEach, SameElements}
use Rattle.testing_rules_model.specs.Unstable.{unstable_rows, unstable_sources}
use Rattle.testing_rules_model.proofs.Sets.{given_by}
use Rattle.testing_rules_reports.specs.Reports.{line, source_line}
use Rattle.office_mail_setup.specs.Setup.{IsSetup}
use Rattle.office_mail.specs.Kept.{Kept, Place, place_cmp}
use Rattle.office_mail.specs.Lists.{Lists}
use Rattle.office_mail.specs.Runs.{covered}
use Rattle.office_core_facts.specs.Outcome.{covered_items, item_at, testing_after}
use Rattle.office_core_facts.specs.Seen.{IsSeen}
use Rattle.office_core_facts.proofs.WalkFacts.{at_place, find_entry}
use Rattle.office_core_why.specs.UnstableText.{unstable_text}
use Rattle.office_core_laws.specs.Checked.{HasPackages, IsChecked, IsFromIndex, IsOrdered, Marks}
use Rattle.office_core_laws.specs.FromUnstable.{package_item}
use Rattle.office_core_laws.specs.Mailed.{IsToldBy, SaysDue}
use Rattle.office_core_laws.specs.Printed.{items_text}
use Rattle.office_core_laws.proofs.CheckedRuns.{comes_from_index}
use Rattle.office_core_laws.proofs.MailedItems.{row_in_index}
use Rattle.office_core_laws.proofs.Moving.{kept_from_unstable}
use Rattle.office_core_laws.proofs.OrderedRuns.{row_seen}
use Rattle.office_core_laws.proofs.PrintedItems.{rows_printed}

pub checked_run : (setup : Lists) (kept : Kept) (k : ℕ) (marks : Marks) (told index dropped : List Item) (gone : ℕ) (due : Due) → IsSetup setup
    → HasPackages marks told (unstable_rows setup.archs (covered_items setup kept (k + 1))) → IsChecked told index dropped gone due
    → IsFromIndex marks index due (testing_after setup kept k) (testing_after setup kept (k + 1))
checked_run setup kept k marks told index dropped gone due is has checked =
    comes_from_index setup.archs (covered_items setup kept (k + 1)) marks told index dropped gone due is.archs has checked
    (testing_after setup kept k) (testing_after setup kept (k + 1)) (kept_from_unstable setup kept k)

-- each place of kept mail has one message
one_covered : (setup : Lists) (kept : Kept) (k : ℕ) → HasOneOfEach (covered_items setup kept k)
unfolding covered_items
one_covered setup kept k = λ m o cm co sender number.
    let es = entries (covered setup kept k) in
    let e = given_by (item_at setup) es m cm in
    let f = given_by (item_at setup) es o co in
    let sorted = entries_sorted (covered setup kept k) in
    let place : e.0.0 ≡ f.0.0 = at_place setup e.0 m e.2 ∙ ap (λ (s : ℕ). (s, m.number)) sender ∙ ap (λ (n : ℕ). (o.sender, n)) number ∙ sym (at_place setup f.0 o f.2) in
    let text : e.0.1 ≡ f.0.1 = same_Some e.0.1 f.0.1 (sym (find_entry es e.0 sorted e.1) ∙ ap (λ (p : Place). find place_cmp p es) place ∙ find_entry es f.0 sorted f.1) in
    same_Some m o (sym e.2 ∙ ap (λ (p : Place). item_at setup (p, e.0.1)) place ∙ ap (λ (t : List ℕ). item_at setup (f.0.0, t)) text ∙ f.2)

-- the next order's run, behind a check of what was seen before
pub ordered_run : (setup : Lists) (kept late : Kept) (k : ℕ) (seen : Covered) (marks : Marks) (told index dropped : List Item) (gone : ℕ) (due : Due) → IsSetup setup → IsSeen setup kept seen → IsOrdered setup kept late k
    → HasPackages marks told (unstable_rows setup.archs seen) → IsChecked told index dropped gone due
    → IsFromIndex marks index due (testing_after setup late k) (testing_after setup late (k + 1))
ordered_run setup kept late k seen marks told index dropped gone due is sees ordered has checked =
    checked_run setup late k marks told index dropped gone due is
    (λ r c. has r (row_seen setup kept late k seen sees ordered (one_covered setup late (k + 1)) setup.archs r c)) checked

pub mailed_run : (setup : Lists) (kept : Kept) (k : ℕ) (s sent : Covered) (told index dropped : List Item) (gone : ℕ) (due : Due) → IsSetup setup → SameElements (covered_items setup kept (k + 1)) (s ++ sent)
    → IsToldBy setup.archs s told dropped → IsSync told index dropped gone due → SaysDue sent due
    → (r : RowIn) → Contains (testing_after setup kept (k + 1)).rows r → Contains (testing_after setup kept k).rows r ⊎ Contains index (package_item r)
mailed_run setup kept k s sent told index dropped gone due is same by sync says r c = elim ((kept_from_unstable setup kept k).rows r c) [
  | inl was ↦ inl was
  | inr came ↦ inr (row_in_index s sent (covered_items setup kept (k + 1)) (one_covered setup kept (k + 1)) same setup.archs told index dropped gone due by sync says is.archs r came)
]

pub items_printed : (archs : List Text) (finished : ℕ) (s : Covered) → IsArchs archs → unstable_text archs finished s ≡ items_text archs finished s
unfolding unstable_text
items_printed archs finished s are =
    ap (λ t. line (codes "unstable" ∷ decimal finished ∷ []) ++ flat_map (λ u. source_line (as_source u)) (unstable_sources s) ++ t) (rows_printed archs s are)
