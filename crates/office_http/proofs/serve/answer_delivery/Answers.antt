use Rattle.office_http.proofs.serve.answer_delivery.Goals as goal

pub returns-clause-carries : goal.returns-clause-carries
returns-clause-carries g c = c.deliver_and_settle.ensures.carries

pub returns-clause-place : goal.returns-clause-place
returns-clause-place g c = rw c.delivery_answer.ensures c.deliver_and_settle.ensures.place

pub returns-clause-runs : goal.returns-clause-runs
returns-clause-runs g c = λ h. rw c.delivery_answer.ensures (c.deliver_and_settle.ensures.runs h)
