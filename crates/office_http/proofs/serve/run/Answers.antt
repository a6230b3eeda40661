use Rattle.std.proofs.Common.{refl}
use Rattle.office_http.proofs.serve.run.Goals as goal

pub returns-in-Deliver-clause-runs : goal.returns-in-Deliver-clause-runs
returns-in-Deliver-clause-runs g c = λ h. rw c.in-Deliver.is (c.answer_delivery.ensures.runs h)

pub returns-in-DeliverOf-clause-runs : goal.returns-in-DeliverOf-clause-runs
returns-in-DeliverOf-clause-runs g c = λ h. rw c.in-DeliverOf.is (c.answer_delivery_of.ensures.runs h)

pub returns-in-Look-clause-runs : goal.returns-in-Look-clause-runs
returns-in-Look-clause-runs g c = λ h. rw c.in-Look.is (c.answer_look.ensures.runs h)

pub returns-in-Try-clause-runs : goal.returns-in-Try-clause-runs
returns-in-Try-clause-runs g c = λ h. rw c.in-Try.is (c.try_bytes.ensures.runs h _ (rw c.request_terms.ensures refl))

pub returns-in-TryOn-clause-runs : goal.returns-in-TryOn-clause-runs
returns-in-TryOn-clause-runs g c = λ h. rw c.in-TryOn.is (c.try_bytes-in-TryOn.ensures.runs h _ (rw c.terms_on.ensures refl))

pub returns-in-Breaks-clause-runs : goal.returns-in-Breaks-clause-runs
returns-in-Breaks-clause-runs g c = λ h. rw c.in-Breaks.is (c.break_bytes.ensures.runs h)
