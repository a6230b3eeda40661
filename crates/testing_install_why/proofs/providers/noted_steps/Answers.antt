use Rattle.std.proofs.Common.{◌≤◌, length, arith}
use Rattle.testing_install_why.proofs.MarkedSteps.{noted_steps_all}
use Rattle.testing_install_why.proofs.providers.noted_steps.Goals as goal

pub returns : goal.returns
returns c =
    let over : length c.args.order.now ≤ c.loop-number.number = omega arith in
    noted_steps_all c.args.suite.now.rows c.args.order.now c.loop-number.noted c.loop-number.number c.loop-number.invariant over
