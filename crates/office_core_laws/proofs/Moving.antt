-- What whole runs bring into testing.
use Rattle.std.specs.Prelude.{ℕ, suc, ◌+◌, ◌⊎◌, List, [], Contains, Option, Some, None}
use Rattle.std.proofs.Common.{◌≡◌, subst, arith, inl, inr}
use Rattle.jiff_core.specs.declared.civil.date.Date.{Date}
use Rattle.archive_plan.specs.declared.items.Item.{Item}
use Rattle.testing_rules_items.proofs.Members.{none_among}
use Rattle.testing_rules_model.specs.Covered.{Covered}
use Rattle.testing_rules_model.specs.Suite.{Suite}
use Rattle.office_mail.specs.Kept.{Kept}
use Rattle.office_mail.specs.Lists.{Lists}
use Rattle.office_mail.specs.Runs.{latest_day, orders_to}
use Rattle.office_core_facts.specs.Outcome.{covered_items, outcome, outcome_of, outcome_on, testing_after}
use Rattle.archive_plan.specs.Items.{lacking}
use Rattle.office_core_laws.specs.FromUnstable.{AreAmong, IsFromUnstable, suite_items, told_items}
use Rattle.office_core_laws.proofs.Coming.{run_from}
use Rattle.office_core_laws.proofs.Indexed.{item_from, nothing_lacks}

run_on : (setup : Lists) (run : ℕ) (date : Option Date) (mail : Covered) (old : Suite) → IsFromUnstable setup.archs mail old (outcome_on setup run date mail old).testing
unfolding outcome
run_on setup run None mail old = record { sources = λ x c. none_among x c; rows = λ r c. none_among r c }
run_on setup run (Some date) mail old = run_from setup.archs mail old date

next_from : (setup : Lists) (kept : Kept) (k : ℕ) → IsFromUnstable setup.archs (covered_items setup kept (suc k)) (testing_after setup kept k) (testing_after setup kept (suc k))
unfolding outcome_of
next_from setup kept k = run_on setup (suc k) (latest_day (orders_to setup kept (suc k))) (covered_items setup kept (suc k)) (testing_after setup kept k)

pub kept_from_unstable : (setup : Lists) (kept : Kept) (k : ℕ) → IsFromUnstable setup.archs (covered_items setup kept (k + 1)) (testing_after setup kept k) (testing_after setup kept (k + 1))
kept_from_unstable setup kept k =
    let one : suc k ≡ k + 1 = omega arith in
    subst (λ n. IsFromUnstable setup.archs (covered_items setup kept n) (testing_after setup kept k) (testing_after setup kept n)) one (next_from setup kept k)

-- so it is in each list that has unstable's items
pub kept_from_index : (setup : Lists) (kept : Kept) (k : ℕ) (index : List Item) → AreAmong (told_items setup.archs (covered_items setup kept (k + 1))) index
    → (x : Item) → Contains (suite_items (testing_after setup kept (k + 1))) x → Contains (suite_items (testing_after setup kept k)) x ⊎ Contains index x
kept_from_index setup kept k index inside x c =
    elim (item_from setup.archs (covered_items setup kept (k + 1)) (testing_after setup kept k) (testing_after setup kept (k + 1)) (kept_from_unstable setup kept k) x c) [
      | inl was ↦ inl was
      | inr came ↦ inr (inside x came)
    ]

-- and a plan over that list lacks nothing
pub kept_lacks_nothing : (setup : Lists) (kept : Kept) (k : ℕ) (index testing suite : List Item) → AreAmong (told_items setup.archs (covered_items setup kept (k + 1))) index
    → AreAmong testing (suite_items (testing_after setup kept (k + 1))) → AreAmong (suite_items (testing_after setup kept k)) suite → lacking (lacking testing suite) index ≡ []
kept_lacks_nothing setup kept k index testing suite =
    nothing_lacks setup.archs (covered_items setup kept (k + 1)) (testing_after setup kept k) (testing_after setup kept (k + 1)) index testing suite (kept_from_unstable setup kept k)
