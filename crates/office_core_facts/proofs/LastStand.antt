-- The facts of the last finished run stand for the mail that it covers.
use Rattle.std.proofs.Common.{◌≡◌, ℕ, zero, suc, ◌<◌, ◌≤◌, List, [], ◌∷◌, length, slice_index, Some, None, ap, subst, refl, arith}
use Rattle.jiff_core.specs.declared.civil.date.Date.{Date}
use Rattle.testing_rules_model.specs.Covered.{Covered}
use Rattle.testing_rules_model.specs.FactLists.{FactLists}
use Rattle.testing_rules_model.specs.StandsFor.{StandsFor}
use Rattle.office_mail.specs.declared.message.RunOrder.{RunOrder}
use Rattle.office_mail.specs.Lists.{Lists}
use Rattle.office_mail.specs.Kept.{Kept}
use Rattle.office_mail.specs.Runs.{cover, cover_of, latest_day, orders_to}
use Rattle.office_store_keeper.specs.Content.{Content}
use Rattle.office_core_facts.specs.declared.covered.KnownFacts.{KnownFacts}
use Rattle.office_core_facts.specs.Known.{AreKnown}
use Rattle.office_core_facts.specs.Outcome.{covered_items}
use Rattle.office_core_facts.specs.State.{IsOffice}
use Rattle.office_core_facts.specs.steps.Walk.{said_within}
use Rattle.office_core_orders.proofs.ReadyCount.{orders_to-zero}
use Rattle.office_core_facts.proofs.KnownStand.{known_stand}
use Rattle.office_core_facts.proofs.TakenFacts.{said_within-same}
use Rattle.office_core_facts.proofs.WalkFacts.{stands_for_covered}

-- facts that stand for what is said up to the covers of the finished runs stand for their covered mail
pub stands_covered : (setup : Lists) (content : Content) (f : FactLists) (covers : ℕ → ℕ) → IsOffice setup content → ((s : ℕ) → s < length setup.senders → covers s ≡ cover_of (orders_to setup content.kept (length content.reports)) s)
    → StandsFor f (said_within setup content.kept covers (length setup.senders)) content.testing → StandsFor f (covered_items setup content.kept (length content.reports)) content.testing
stands_covered setup content f covers office same stands =
    let k : ℕ = length content.reports in
    stands_for_covered setup content.kept k f content.testing office.places
    (subst (λ (l : Covered). StandsFor f l content.testing) (said_within-same setup content.kept covers (cover setup content.kept k) (length setup.senders) same) stands)

-- so do those that are known
pub known_covered : (setup : Lists) (content : Content) (known : KnownFacts) → IsOffice setup content → AreKnown setup content known → StandsFor known.facts (covered_items setup content.kept (length content.reports)) content.testing
known_covered setup content known office are = stands_covered setup content known.facts (slice_index known.taken.items) office are.covers (known_stand setup content known office are)

-- where there is no day, there is no order
pub dated_none : (orders : List RunOrder) → latest_day orders ≡ None → length orders ≡ 0
dated_none [] e = refl
dated_none (x ∷ xs) e = absurd (cc e)

-- where there is a day, a run is finished
pub dated_run : (setup : Lists) (kept : Kept) (k : ℕ) (date : Date) → latest_day (orders_to setup kept k) ≡ Some date → 1 ≤ k
dated_run setup kept zero date is = absurd (cc (is, ap latest_day (orders_to-zero setup kept)))
dated_run setup kept (suc k) date is = omega arith
