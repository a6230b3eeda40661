use Rattle.office_core_orders.proofs.CountFacts.{IsCounted-new}
use Rattle.office_core.proofs.office.Office.new.Goals as goal

pub invariant_of-result : goal.invariant_of-result
invariant_of-result g c = (
  c.requires.lists,
  λ trusted. IsCounted-new c.args.setup (g.K.Keeper.content c.args.keeper) c.new.result.items c.new-2.result.items c.new.ensures.items c.new-2.ensures.items,
  λ trusted. tt,
)
