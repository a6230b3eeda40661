use Rattle.office_mail.proofs.AnswerFacts.{due_or_memory}
use Rattle.office_core_breaks.proofs.asked.question_in.Goals as goal

pub returns : goal.returns
returns c = due_or_memory _ _ c.question_of.ensures
