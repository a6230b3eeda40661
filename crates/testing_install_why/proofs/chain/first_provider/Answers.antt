use Rattle.std.proofs.Common.{◌≤◌, length, ap, arith}
use Rattle.testing_install_why.proofs.Least.{names_all, names_more, names_none}
use Rattle.testing_install_why.proofs.chain.first_provider.Goals as goal

pub loop-alternative-init : goal.loop-alternative-init
loop-alternative-init c = names_none c.args.suite.now.rows c.args.order.now c.args.noted.now c.args.end c.args.clause.now

pub loop-alternative-preserved : goal.loop-alternative-preserved
loop-alternative-preserved c =
    names_more c.args.suite.now.rows c.args.order.now c.args.noted.now c.args.end c.args.clause.now _ _ _ _ _ _ _ c.loop-alternative.invariant c.as_slice-alternative-items.ensures c.loop-alternative-test.true c.alternative-item.is c.as_str.ensures c.places-numbers.ensures c.least_among-least.ensures

pub returns : goal.returns
returns c =
    let long = ap length c.as_slice-alternative-items.ensures in
    let over : length c.args.clause.now ≤ c.loop-alternative.alternative-index = omega arith in
    names_all c.args.suite.now.rows c.args.order.now c.args.noted.now c.args.end c.args.clause.now _ c.loop-alternative.alternative-index c.requires.noted c.loop-alternative.invariant over
