use Rattle.std.proofs.Common.{rules}
use Rattle.deb_control.specs.Relations.{alternative_in}
use Rattle.deb_control.proofs.grammar.read_alternative.Goals as goal

pub returns : goal.returns
unfolding alternative_in
returns c = search rules
