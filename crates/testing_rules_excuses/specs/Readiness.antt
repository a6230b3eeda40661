-- The day this many days after another, by day numbers (this office decides that a source waits whole days).
use Rattle.std.specs.Prelude.{◌≡◌, ℕ, ◌+ℤ◌, pos, Option, Some, None}
use Rattle.jiff_core.specs.declared.civil.date.Date.{Date}
use Rattle.jiff_core.specs.Calendar.{IsEpochDay}
use Rattle.jiff_core.specs.Date.{epoch_day}
use Rattle.testing_rules_model.specs.declared.excuse.Excuse.{Excuse}
use Rattle.testing_rules_model.specs.declared.facts.UploadIn.{UploadIn}

-- the day this many days after another; none if it is after 9999-12-31, the last date that can be written
abbrev pub IsDayAfter : Date → ℕ → Option Date → Type 0
IsDayAfter day days (Some d) = epoch_day d ≡ (epoch_day day +ℤ pos days)
IsDayAfter day days None = IsEpochDay (epoch_day day +ℤ pos days) → ⊥

-- the day on which the source is old enough: the upload's day plus the days needed by its excuse (Debian Developer's
-- Reference 5.13.2); none without an excuse
abbrev pub IsReady : UploadIn → Option Excuse → Option Date → Type 0
IsReady u (Some e) ready = IsDayAfter u.day e.needed ready
IsReady u None ready = ready ≡ None
