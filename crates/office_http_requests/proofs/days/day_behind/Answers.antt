use Rattle.std.proofs.Common.{sym, ap, ◌∙◌}
use Rattle.office_mail.specs.Days.{day_in}
use Rattle.office_mail.proofs.DayFacts.{same_day}
use Rattle.office_http_requests.proofs.DayFacts.{never_day}
use Rattle.office_http_requests.proofs.days.day_behind.Goals as goal

pub returns-in-Ok : goal.returns-in-Ok
returns-in-Ok c = same_day c.in-Ok.text.now c.day_in.result c.day_in.ensures ∙ ap day_in (c.in-Ok.ensures.cases.0 ∙ c.behind.ensures)

pub returns-in-Err : goal.returns-in-Err
returns-in-Err c = rw c.behind.ensures at (sym (never_day c.behind.result.now c.in-Err.ensures.cases.0))
