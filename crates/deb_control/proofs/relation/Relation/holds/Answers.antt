use Rattle.std.proofs.Common.{rules}
use Rattle.deb_control.specs.Relations.{holds}
use Rattle.deb_control.proofs.relation.Relation.holds.Goals as goal

pub returns-in-AtMost : goal.returns-in-AtMost
unfolding holds
returns-in-AtMost c = search rules
