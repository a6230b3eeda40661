use Rattle.office_mail.proofs.SaidFacts.{keeps}
use Rattle.office_mail.proofs.laws.keeps_to_setup.Goals as goal

pub returns : goal.returns
returns c = keeps
