-- What is told of one hint.
use Rattle.std.proofs.Common.{◌≡◌, ◌∙◌, ℕ, ◌+◌, ◌<◌, false, true, List, [], ◌∷◌, length, Option, None, Some, IsSome, is_none, is_some, option_copied, refl, sym, ap, arith}
use Rattle.std.specs.Borrow.{Bor}
use Rattle.office_mail.specs.declared.message.RunOrder.{RunOrder}
use Rattle.office_mail.specs.Lists.{Lists}
use Rattle.office_mail.specs.Runs.{latest_day, order_at}
use Rattle.office_store_keeper.specs.Content.{Content}
use Rattle.office_core_orders.specs.steps.Ready.{FirstOrders}
use Rattle.office_core_facts.specs.State.{IsOffice}
use Rattle.office_core_facts.proofs.FinishedFacts.{orders_all}

-- there is one that is lent where there is one
pub some_copied : {A : Type 0} (o : Option (Bor A)) → is_some (option_copied o) ≡ is_some o
some_copied None = refl
some_copied (Some x) = refl

not_none : {A : Type 0} (o : Option A) → IsSome o → is_none o ≡ false
not_none None some = absurd (cc some)
not_none (Some x) some = refl

-- the next run's order has come where the orders up to it have
pub has_come : (setup : Lists) (content : Content) (orders : List RunOrder) → FirstOrders setup content.kept orders → length orders ≡ length content.reports + 1
    → is_none (order_at setup content.kept (length content.reports + 1)) ≡ false
has_come setup content orders first count =
    not_none (order_at setup content.kept (length content.reports + 1)) (first.each (length content.reports + 1) (omega arith) (omega (arith, count)))

-- and not where the orders end before it
pub not_yet_come : (setup : Lists) (content : Content) (orders : List RunOrder) → IsOffice setup content → length orders < length content.reports + 1 → order_at setup content.kept (length orders + 1) ≡ None
    → is_none (order_at setup content.kept (length content.reports + 1)) ≡ true
not_yet_come setup content orders office short gap =
    let k = length content.reports in
    let all : length orders ≡ k = orders_all setup content orders k office refl (omega (arith, short)) (λ lt. gap) in
    ap is_none (ap (λ (n : ℕ). order_at setup content.kept (n + 1)) (sym all) ∙ gap)

-- where some orders have come, one has the latest day
pub no_day : (orders : List RunOrder) → latest_day orders ≡ None → length orders ≡ 0
no_day [] e = refl
no_day (order ∷ orders) e = absurd (cc e)
