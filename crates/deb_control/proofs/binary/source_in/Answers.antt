use Rattle.std.proofs.Common.{rules}
use Rattle.deb_control.specs.Binary.{source_in}
use Rattle.deb_control.proofs.binary.source_in.Goals as goal

pub returns : goal.returns
unfolding source_in
returns c = search rules
