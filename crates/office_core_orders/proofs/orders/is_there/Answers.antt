use Rattle.std.proofs.Common.{ℕ, ◌↔◌, IsTrue, List, subst}
use Rattle.office_core_orders.proofs.ReadyCount.{IsWithin, there_by}
use Rattle.office_core_orders.proofs.orders.is_there.Goals as goal

pub returns-clause-there : goal.returns-clause-there
returns-clause-there g c = λ trusted places.
    let setup = c.args.setup.now in
    let kept = (g.K.Keeper.content c.args.keeper.now).kept in
    let order = c.args.order.now in
    let counts : List ℕ = c.reach_all.new.counts.items in
    let within : IsTrue c.is_within.result ↔ IsWithin order counts = subst (λ (xs : List ℕ). IsTrue c.is_within.result ↔ IsWithin order xs) c.deref.ensures.value c.is_within.ensures in
    there_by setup kept order counts c.is_within.result places (c.in_ok-reach_all.ensures.each trusted) (c.in_ok-reach_all.ensures.reached trusted) within
