use Rattle.std.proofs.Common.{sym, ◌∙◌}
use Rattle.deb_control.proofs.LineFronts.{not_blank}
use Rattle.deb_control.proofs.text.begins_blank.Goals as goal

pub returns-then-not-may_be_blank : goal.returns-then-not-may_be_blank
returns-then-not-may_be_blank c = sym (not_blank c.args.bytes.now (sym c.may_be_blank.ensures ∙ c.if-not-may_be_blank.true))
