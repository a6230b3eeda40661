-- The day in a text.
use Rattle.std.specs.Prelude.{ℕ, List, Option}
use Rattle.jiff_core.specs.declared.civil.date.Date.{Date}
use Rattle.office_mail_setup.specs.Calendar.{the}
use Rattle.office_mail_setup.specs.Values.{IsDayText}
use Rattle.office_mail_setup.proofs.OneDay.{the_day}

-- the day in a text YYYY-MM-DD: a real one, from 1970-01-01 to 9999-12-31 (ISO 8601); `the_day` is a day with the
-- proof that no other one is in the text
unfoldable pub day_in : List ℕ → Option Date
day_in text = the (IsDayText text) (the_day text)
