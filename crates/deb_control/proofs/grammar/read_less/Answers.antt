use Rattle.std.proofs.Common.{rules}
use Rattle.deb_control.proofs.grammar.read_less.Goals as goal

pub returns : goal.returns
returns c = search rules
