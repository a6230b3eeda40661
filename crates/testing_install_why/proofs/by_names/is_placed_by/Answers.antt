use Rattle.std.proofs.Common.{◌≤◌, length, arith}
use Rattle.testing_install.specs.Rows.{binaries}
use Rattle.testing_install_why.proofs.Checked.{placed_none, placed_more, placed_all}
use Rattle.testing_install_why.proofs.by_names.is_placed_by.Goals as goal

pub loop-place-init : goal.loop-place-init
loop-place-init c = placed_none (binaries c.args.rows.now) c.args.steps.now

pub returns : goal.returns
returns c = λ _.
    let over : length c.args.rows.now ≤ c.loop-place.place = omega arith in
    placed_all (binaries c.args.rows.now) c.args.steps.now c.loop-place.place (length c.args.rows.now) c.loop-place.invariant over

pub loop-place-preserved : goal.loop-place-preserved
loop-place-preserved c =
    placed_more (binaries c.args.rows.now) c.args.steps.now c.loop-place.place c.loop-place.invariant (c.is_row_placed_by.ensures c.if-not-is_row_placed_by.false)
