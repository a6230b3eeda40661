use Rattle.std.proofs.Common.{sym, ◌∙◌}
use Rattle.deb_control.proofs.Signs.{sign_is}
use Rattle.deb_control.proofs.grammar.read_sign.Goals as goal

pub returns : goal.returns
returns c = c.sign_by_characters.ensures ∙ sym (sign_is c.args.text.now)
