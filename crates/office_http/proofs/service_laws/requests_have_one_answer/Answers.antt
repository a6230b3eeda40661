use Rattle.office_http.proofs.AnswerFacts.{one_answer}
use Rattle.office_http.proofs.service_laws.requests_have_one_answer.Goals as goal

pub returns : goal.returns
returns c = one_answer
