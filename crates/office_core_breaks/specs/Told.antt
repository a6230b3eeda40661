-- What is told of the rows that a change would break, beside the testing that the last finished run left. That it is
-- told is decided by this office; which rows these are, the rules of the run say (Debian Developer's Reference 5.13.2).
use Rattle.std.specs.Prelude.{◌≡◌, ◌⊎◌, ℕ, List, [], ◌++◌, Option, Some, None}
use Rattle.jiff_core.specs.declared.civil.date.Date.{Date}
use Rattle.testing_rules_items.specs.Words.{Text, is_empty}
use Rattle.testing_rules_model.specs.declared.excuse.Excuse.{Excuse}
use Rattle.testing_rules_model.specs.declared.facts.UploadIn.{UploadIn}
use Rattle.testing_rules_model.specs.declared.suite.RowIn.{RowIn}
use Rattle.testing_rules_model.specs.Covered.{Covered}
use Rattle.testing_rules_model.specs.Excuses.{excuses_of}
use Rattle.testing_rules_model.specs.Moves.{move_group, offender_of}
use Rattle.testing_rules_model.specs.Suite.{Suite}
use Rattle.testing_rules_model.specs.Unstable.{unstable_rows, unstable_sources}
use Rattle.testing_rules_refusals.specs.Texts.{Known}
use Rattle.testing_rules_refusals.specs.ToldChange.{IsToldMove}
use Rattle.office_mail.specs.Lists.{Lists}
use Rattle.office_mail.specs.Kept.{Kept}
use Rattle.office_mail.specs.Runs.{latest_day, orders_to}
use Rattle.office_core_facts.specs.Outcome.{covered_items, testing_after}
use Rattle.office_core_breaks.specs.declared.BreaksText.{BreaksText}
use Rattle.office_core_breaks.specs.declared.asked.Question.{Question}
use Rattle.office_core_breaks.specs.Breaks.{coming, rows_after}
use Rattle.office_core_breaks.specs.Texts.{all_text, head_line, unknown_text}

-- the lines on why the group can't move as one, none where that breaks nothing
abbrev pub IsWhyBroken : List Text → List UploadIn → List RowIn → List Excuse → Suite → List Text → Text → Type 0
IsWhyBroken archs sources unstable excuses t group text =
    IsToldMove archs sources unstable excuses t group text
    ⊎ ((offender_of archs t.rows (move_group sources unstable group t).rows group ≡ None) × (text ≡ []))

-- what is known where a change is told of
abbrev pub known_for : List Text → List UploadIn → List Excuse → List Text → Known
known_for archs sources excuses group = record { archs = archs; sources = sources; excuses = excuses; coming = group; stuck = [] }

-- What is told of a question: what can't change, the rows that the change breaks, and what shows that the first of
-- these isn't installable then, if sources come in. The question is known if all that it names can change.
pub record IsToldOf (archs : List Text) (sources : List UploadIn) (unstable : List RowIn) (excuses : List Excuse) (t : Suite) (run : ℕ) (q : Question) (told : BreaksText) : Type 0 where
  pub shown : Text
  pub why : IsWhyBroken archs sources unstable excuses t (coming sources t q.change) shown
  pub is : told.text ≡ head_line run q.words ++ unknown_text sources t q.change
      ++ all_text (known_for archs sources excuses (coming sources t q.change)) unstable t.rows (rows_after sources unstable t q.change) ++ shown
  pub known : told.is_known ≡ is_empty (unknown_text sources t q.change)

-- the same over covered messages and the testing that a run of this date left
abbrev pub IsTold : List Text → Covered → Suite → ℕ → Date → Question → BreaksText → Type 0
IsTold archs s t run date q told = IsToldOf archs (unstable_sources s) (unstable_rows archs s) (excuses_of archs s t date) t run q told

-- the same of run k, which was on this day
pub record IsBreaksAfter (setup : Lists) (kept : Kept) (k : ℕ) (q : Question) (told : BreaksText) : Type 0 where
  pub date : Date
  pub dated : latest_day (orders_to setup kept k) ≡ Some date
  pub is : IsTold setup.archs (covered_items setup kept k) (testing_after setup kept k) k date q told

-- which rows a change would break where run k, the last finished one, left testing; none if no run is finished
abbrev pub IsBreaks : Lists → Kept → ℕ → Question → Option BreaksText → Type 0
IsBreaks setup kept k q None = k ≡ 0
IsBreaks setup kept k q (Some told) = IsBreaksAfter setup kept k q told
