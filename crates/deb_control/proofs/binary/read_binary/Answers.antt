use Rattle.std.proofs.Common.{rules}
use Rattle.deb_control.specs.steps.BinarySteps.{binary_by}
use Rattle.deb_control.proofs.binary.read_binary.Goals as goal

pub returns : goal.returns
unfolding binary_by
returns c = search rules
