use Rattle.office_mail.proofs.DayFacts.{same_day}
use Rattle.office_mail.proofs.fields.day_in.Goals as goal

pub returns : goal.returns
returns c = same_day _ _ c.day_in.ensures
