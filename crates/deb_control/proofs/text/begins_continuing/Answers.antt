use Rattle.std.proofs.Common.{not, sym, ap, ◌∙◌}
use Rattle.deb_control.proofs.LineFronts.{not_continued, continued_unless_blank}
use Rattle.deb_control.proofs.text.begins_continuing.Goals as goal

pub returns-then-not-may_continue : goal.returns-then-not-may_continue
returns-then-not-may_continue c = sym (not_continued c.args.bytes.now (sym c.may_continue.ensures ∙ c.if-not-may_continue.true))

pub returns : goal.returns
returns c = ap not c.first_is_blank.ensures ∙ sym (continued_unless_blank c.args.bytes.now (sym c.may_continue.ensures ∙ c.if-not-may_continue.false))
