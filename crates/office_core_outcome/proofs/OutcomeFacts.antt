-- What a run decides.
use Rattle.std.proofs.Common.{◌≡◌, ℕ, zero, suc, ◌+◌, List, Option, Some, sym, ap, ◌∙◌, refl, arith}
use Rattle.std.specs.FinMap.{entries}
use Rattle.std.specs.List.{filter_map}
use Rattle.jiff_core.specs.declared.civil.date.Date.{Date}
use Rattle.testing_rules_model.specs.declared.excuse.Excuse.{Excuse}
use Rattle.testing_rules_model.specs.declared.update.Decision.{Decision}
use Rattle.testing_rules_model.specs.Covered.{Covered}
use Rattle.testing_rules_model.specs.Suite.{Suite}
use Rattle.testing_rules_model.specs.Excuses.{excuses_of}
use Rattle.testing_rules_model.specs.Updates.{update_of, IsUpdate}
use Rattle.office_mail.specs.declared.message.RunOrder.{RunOrder}
use Rattle.office_mail.specs.Lists.{Lists}
use Rattle.office_mail.specs.Kept.{Kept, Within}
use Rattle.office_mail.specs.Runs.{orders_to, latest_day, IsReady}
use Rattle.office_mail.proofs.RunFacts.{orders_to-later, covered-later, IsReady-before}
use Rattle.office_core_facts.specs.Outcome.{Outcome, covered_items, item_at, outcome, outcome_of, outcome_on, testing_after}
use Rattle.office_core_facts.specs.steps.Reported.{reported}

-- what is written and left by the excuses and the decisions is the run's outcome
pub reported_is : (setup : Lists) (run : ℕ) (date : Date) (s : Covered) (t new : Suite) (es : List Excuse) (ds : List Decision) → es ≡ excuses_of setup.archs s t date → IsUpdate setup.archs s es t ds new → reported setup run date es (record { decisions = ds; suite = new }) ≡ outcome setup run date s t
unfolding outcome
reported_is setup run date s t new es ds e u =
    ap (λ (d : List Decision). reported setup run date es (record { decisions = d; suite = new })) u.0
    ∙ ap (λ (x : Suite). reported setup run date es (record { decisions = (update_of setup.archs s es t).decisions; suite = x })) u.1
    ∙ ap (λ (x : List Excuse). reported setup run date x (update_of setup.archs s x t)) e

outcome_of-suc : (setup : Lists) (kept : Kept) (n : ℕ) → outcome_of setup kept (suc n) ≡ outcome_on setup (suc n) (latest_day (orders_to setup kept (suc n))) (covered_items setup kept (suc n)) (testing_after setup kept n)
unfolding outcome_of
outcome_of-suc setup kept n = refl

-- the next run by the rules, on the day of its orders
pub outcome_is : (setup : Lists) (kept : Kept) (orders : List RunOrder) (n : ℕ) (date : Date) → orders ≡ orders_to setup kept (n + 1) → Some date ≡ latest_day orders → outcome setup (n + 1) date (covered_items setup kept (n + 1)) (testing_after setup kept n) ≡ outcome_of setup kept (n + 1)
outcome_is setup kept orders n date are is =
    let one : n + 1 ≡ suc n = omega arith in
    let day : Some date ≡ latest_day (orders_to setup kept (n + 1)) = is ∙ ap latest_day are in
    ap (λ (d : Option Date). outcome_on setup (n + 1) d (covered_items setup kept (n + 1)) (testing_after setup kept n)) day
    ∙ ap (λ (k : ℕ). outcome_on setup k (latest_day (orders_to setup kept k)) (covered_items setup kept k) (testing_after setup kept n)) one
    ∙ sym (outcome_of-suc setup kept n)
    ∙ ap (outcome_of setup kept) (sym one)

pub covered_items-later : (setup : Lists) (small large : Kept) (k : ℕ) → Within small large → IsReady setup small k → covered_items setup large k ≡ covered_items setup small k
unfolding covered_items
covered_items-later setup small large k within ready = ap (λ (m : Kept). filter_map (item_at setup) (entries m)) (covered-later setup small large k within ready)

-- later mail changes no outcome of a ready run
pub outcome_of-later : (setup : Lists) (small large : Kept) (k : ℕ) → Within small large → IsReady setup small k → outcome_of setup large k ≡ outcome_of setup small k
unfolding outcome_of
outcome_of-later setup small large zero within ready = refl
outcome_of-later setup small large (suc k) within ready =
    ap (λ (os : List RunOrder). outcome_on setup (suc k) (latest_day os) (covered_items setup large (suc k)) (outcome_of setup large k).testing) (orders_to-later setup small large (suc k) within ready.orders)
    ∙ ap (λ (mail : Covered). outcome_on setup (suc k) (latest_day (orders_to setup small (suc k))) mail (outcome_of setup large k).testing) (covered_items-later setup small large (suc k) within ready)
    ∙ ap (λ (o : Outcome). outcome_on setup (suc k) (latest_day (orders_to setup small (suc k))) (covered_items setup small (suc k)) o.testing) (outcome_of-later setup small large k within (IsReady-before setup small k ready))
