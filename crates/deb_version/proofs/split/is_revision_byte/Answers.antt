use Rattle.std.proofs.Common.{arith}
use Rattle.deb_version.proofs.Places.{revision_place}
use Rattle.deb_version.proofs.split.is_revision_byte.Goals as goal

pub returns : goal.returns
returns c = revision_place c.args.byte (omega arith)
