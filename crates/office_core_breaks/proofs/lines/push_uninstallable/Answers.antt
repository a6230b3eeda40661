use Rattle.std.proofs.Common.{append_assoc}
use Rattle.office_core_breaks.proofs.lines.push_uninstallable.Goals as goal

pub returns : goal.returns
returns c = simp append_assoc c.write.ensures.bytes
