use Rattle.deb_control.proofs.AnswerFacts.{said_or_memory}
use Rattle.deb_control.proofs.relation.Provisions.parse.Goals as goal

pub returns : goal.returns
returns c = said_or_memory _ _ c.read_all_provisions.ensures
