use Rattle.std.proofs.Common.{sym, ◌∙◌}
use Rattle.deb_control.proofs.Alike.{needs_of_read, needs_alike}
use Rattle.deb_control.proofs.binary.clauses_like.Goals as goal

pub returns-then-needs_same : goal.returns-then-needs_same
returns-then-needs_same c = needs_alike c.args.paragraph.now c.args.before.now (sym c.needs_same.ensures ∙ c.if-needs_same.true) ∙ needs_of_read c.args.before.now c.args.like.now c.requires
