use Rattle.std.proofs.Common.{rules}
use Rattle.deb_control.specs.Relations.{is_version}
use Rattle.deb_control.proofs.grammar.parse_version.Goals as goal

pub returns-in-Err : goal.returns-in-Err
unfolding is_version
returns-in-Err c = search rules
