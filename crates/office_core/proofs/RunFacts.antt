-- A run by the rules.
use Rattle.std.proofs.Common.{◌≡◌, ℕ, ◌+◌, List, length, Some, sym, ap, subst, ◌∙◌}
use Rattle.office_mail.specs.declared.message.RunOrder.{RunOrder}
use Rattle.office_mail.specs.Runs.{cover_of, cover, latest_day, orders_to}
use Rattle.jiff_core.specs.declared.civil.date.Date.{Date}
use Rattle.testing_rules_laws.specs.Covered.{Covered}
use Rattle.office_mail.specs.Lists.{Lists}
use Rattle.testing_rules_laws.specs.FactLists.{FactLists}
use Rattle.testing_rules_laws.specs.StandsFor.{StandsFor}
use Rattle.office_store_keeper.specs.Content.{Content}
use Rattle.office_core_orders.specs.steps.Ready.{FirstOrders}
use Rattle.office_core_facts.specs.State.{IsOffice}
use Rattle.office_core_facts.specs.steps.Walk.{said_within}
use Rattle.office_core_facts.specs.Outcome.{Outcome, Testing, covered_items, outcome, outcome_of}
use Rattle.office_core_facts.proofs.WalkFacts.{stands_for_covered}
use Rattle.office_core_outcome.proofs.OutcomeFacts.{outcome_is}

-- a run over the facts of its covered mail is the office's next run
pub next_run : (setup : Lists) (content : Content) (orders : List RunOrder) (run : ℕ) (date : Date) (facts : FactLists) (testing : Testing) (left : Outcome) → IsOffice setup content → FirstOrders setup content.kept orders → length orders ≡ length content.reports + 1 → run ≡ length content.reports + 1 → testing ≡ content.testing → Some date ≡ latest_day orders → StandsFor facts (said_within setup content.kept (cover_of orders) (length setup.senders)) testing → ((s : Covered) → StandsFor facts s testing → left ≡ outcome setup run date s testing) → left ≡ outcome_of setup content.kept run
next_run setup content orders run date facts testing left office first size same given is stands made =
    let kept = content.kept in
    let n = length content.reports in
    let are : orders ≡ orders_to setup kept (n + 1) = first.same ∙ ap (orders_to setup kept) size in
    let given_facts : StandsFor facts (said_within setup kept (cover setup kept (n + 1)) (length setup.senders)) testing =
    subst (λ (os : List RunOrder). StandsFor facts (said_within setup kept (cover_of os) (length setup.senders)) testing) are stands in
    made (covered_items setup kept (n + 1)) (stands_for_covered setup kept (n + 1) facts testing office.places given_facts)
    ∙ ap (λ (r : ℕ). outcome setup r date (covered_items setup kept (n + 1)) testing) same
    ∙ ap (λ (t : Testing). outcome setup (n + 1) date (covered_items setup kept (n + 1)) t) (given ∙ office.testing_is)
    ∙ outcome_is setup kept orders n date are is
    ∙ ap (outcome_of setup kept) (sym same)
