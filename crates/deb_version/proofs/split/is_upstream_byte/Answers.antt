use Rattle.std.proofs.Common.{arith}
use Rattle.deb_version.proofs.Places.{upstream_place}
use Rattle.deb_version.proofs.split.is_upstream_byte.Goals as goal

pub returns : goal.returns
returns c = upstream_place c.args.byte (omega arith)
