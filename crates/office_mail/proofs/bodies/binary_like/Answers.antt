use Rattle.std.proofs.Common.{Result, sym, subst}
use Rattle.deb_control.specs.Binary.{binary_of}
use Rattle.deb_control.specs.declared.binary.Binary.{Binary}
use Rattle.office_mail.specs.declared.message.MailFault.{MailFault}
use Rattle.office_mail.specs.steps.Answers.{Gives}
use Rattle.office_mail.specs.Read.{binary_in, of_binary}
use Rattle.office_mail.proofs.BuildFacts.{told_as_mail}
use Rattle.office_mail.proofs.bodies.binary_like.Goals as goal

pub returns : goal.returns
unfolding binary_in
returns c =
    let said = binary_of c.args.paragraph.now in
    subst (λ (r : Result Binary MailFault). Gives r (of_binary said)) (sym c.of_binary.ensures) (told_as_mail c.parse_like.result said c.parse_like.ensures)
