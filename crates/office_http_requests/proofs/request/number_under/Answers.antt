use Rattle.office_http_requests.proofs.LengthFacts.{never_else, number_ok, number_err}
use Rattle.office_http_requests.proofs.request.number_under.Goals as goal

pub returns-in_default : goal.returns-in_default
returns-in_default c = absurd (never_else c.args.text.now c.requires c.in_default.ensures.cases.0)

pub returns-in-Ok-from_str_radix : goal.returns-in-Ok-from_str_radix
returns-in-Ok-from_str_radix c = rw (← c.in-Ok.ensures.cases.0) (number_ok c.in-Ok.digits.now _ (rw (← c.in-Ok.ensures.cases.0) at c.requires) c.in-Ok-from_str_radix.ensures.value)

pub returns-in-Err : goal.returns-in-Err
returns-in-Err c = rw (← c.in-Ok.ensures.cases.0) (number_err c.in-Ok.digits.now (rw (← c.in-Ok.ensures.cases.0) at c.requires) c.in-Err.ensures.value)
