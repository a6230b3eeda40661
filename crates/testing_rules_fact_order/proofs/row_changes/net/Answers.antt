use Rattle.std.proofs.Common.{◌∙◌, ap}
use Rattle.testing_rules_fact_order.proofs.Netting.{net_between}
use Rattle.testing_rules_model.specs.FactRows.{times}
use Rattle.testing_rules_fact_order.proofs.row_changes.net.Goals as goal

pub returns : goal.returns
returns c =
    net_between c.deref.result.now c.deref-2.result.now c.merge.new.put.items c.merge.new.gone.items c.args.came.now c.args.left.now
    (λ r. ap (times r) c.deref.ensures.value ∙ c.in_ok-came.ensures.same r) (λ r. ap (times r) c.deref-2.ensures.value ∙ c.in_ok-left.ensures.same r) c.in_ok-merge.ensures
