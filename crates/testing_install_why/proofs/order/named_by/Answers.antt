use Rattle.std.proofs.Common.{ap, length, arith}
use Rattle.testing_install_why.proofs.Naming.{named_none, named_next, named_all}
use Rattle.testing_install_why.proofs.order.named_by.Goals as goal

pub loop-alternative-init : goal.loop-alternative-init
loop-alternative-init c = named_none _ _ _ c.new-places.ensures.items

pub loop-alternative-preserved : goal.loop-alternative-preserved
loop-alternative-preserved c =
    named_next c.args.suite.now.rows _ _ _ c.args.clause.now _ _ _ _ c.loop-alternative.invariant c.as_slice-alternative-items.ensures c.loop-alternative-test.true c.alternative-item.is c.as_str.ensures c.providers.ensures.within c.providers.ensures.complete c.in_ok-extend_from_slice.ensures.items

pub returns-clause-within : goal.returns-clause-within
returns-clause-within c = c.loop-alternative.invariant.within

pub returns-clause-complete : goal.returns-clause-complete
returns-clause-complete c =
    let long = ap length c.as_slice-alternative-items.ensures in
    named_all _ _ _ c.loop-alternative.alternative-index c.loop-alternative.invariant (omega arith)
