use Rattle.std.proofs.Common.{rules}
use Rattle.deb_control.specs.Relations.{provision_in}
use Rattle.deb_control.proofs.grammar.read_provision.Goals as goal

pub returns : goal.returns
unfolding provision_in
returns c = search rules
