use Rattle.std.proofs.Common.{◌≤◌, length, arith}
use Rattle.testing_install.specs.Rows.{binaries}
use Rattle.testing_install_why.proofs.Checked.{steps_all}
use Rattle.testing_install_why.proofs.checks.are_steps.Goals as goal

pub returns : goal.returns
returns c = λ _.
    let over : length c.args.steps.now ≤ c.loop-number.number = omega arith in
    steps_all (binaries c.args.rows.now) c.args.steps.now c.loop-number.number c.loop-number.invariant over
