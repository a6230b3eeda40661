use Rattle.office_http.proofs.serve.source_text.Goals as goal

pub returns-clause-tells : goal.returns-clause-tells
returns-clause-tells g c = λ h. rw c.as_str.ensures at (c.why_text-text.ensures.why h)
