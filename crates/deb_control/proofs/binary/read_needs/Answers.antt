use Rattle.std.proofs.Common.{rules}
use Rattle.deb_control.specs.steps.BinarySteps.{needs_in}
use Rattle.deb_control.proofs.binary.read_needs.Goals as goal

pub returns : goal.returns
unfolding needs_in
returns c = search rules
