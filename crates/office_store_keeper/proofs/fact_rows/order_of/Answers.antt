use Rattle.std.proofs.Common.{ap, ◌∙◌}
use Rattle.testing_rules_model.proofs.FactKinds.{derived_order}
use Rattle.office_store_keeper.proofs.fact_rows.order_of.Goals as goal

pub returns : goal.returns
returns c = c.cmp.ensures ∙ ap (λ order. order c.args.row.now c.args.other.now) derived_order
