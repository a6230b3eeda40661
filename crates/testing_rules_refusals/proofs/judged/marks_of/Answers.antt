use Rattle.std.proofs.Common.{arith, ◌≡◌, length}
use Rattle.testing_install.specs.Closed.{marked}
use Rattle.testing_rules_refusals.proofs.Everywhere.{marks_computed}
use Rattle.testing_rules_refusals.proofs.judged.marks_of.Goals as goal

pub returns : goal.returns
returns c =
    let s = c.args.suite.now in
    let n = c.loop-place.place in
    let over : length s.rows ≡ n = omega arith in
    marks_computed s.rows (marked s.there) c.loop-place.marks.items n c.loop-place.invariant.long over c.requires c.loop-place.invariant.exact
