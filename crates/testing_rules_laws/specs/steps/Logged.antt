-- Which rows came and which left since the facts were kept, and what is made of them. That facts are kept as rows is this office's own.
use Rattle.std.specs.Prelude.{◌≡◌, ℕ, ◌+◌, ◌<◌, ◌≤◌, List}
use Rattle.testing_rules_fact_order.specs.declared.entry.FactUpdate.{FactUpdate}
use Rattle.testing_rules_facts.specs.steps.Entries.{with_entry}
use Rattle.testing_rules_facts.specs.steps.Shifts.{Shifts, shift_of}
use Rattle.testing_rules_model.specs.declared.fact_row.FactRow.{FactRow}
use Rattle.testing_rules_model.specs.FactDifference.{IsChangedFrom, IsDifference}
use Rattle.testing_rules_model.specs.FactLists.{FactLists}
use Rattle.testing_rules_model.specs.FactRows.{rows_of, times}
use Rattle.testing_rules_model.specs.KeptFacts.{trimmed}
use Rattle.testing_rules_model.specs.Suite.{Suite}

-- The count of a row before, plus how often it is put, minus how often it is gone, is its count now. Without repeated
-- rows, a put row is new and a gone row is missing afterwards.
pub record AreMade (count : FactRow → ℕ) (now put gone : List FactRow) : Type 0 where
  pub balance : (r : FactRow) → times r now + times r gone ≡ count r + times r put
  pub fresh : (r : FactRow) → times r now ≤ 1 → 0 < times r put → count r ≡ 0
  pub was : (r : FactRow) → count r ≤ 1 → 0 < times r gone → (count r ≡ 1) × (times r now ≡ 0)

-- one more message shifts exactly these rows
abbrev pub EntryShifts : Type 0
EntryShifts = (e : FactUpdate) (f : FactLists) → Shifts (rows_of f) (rows_of (with_entry e f)) (shift_of e f)

-- Taking a message logs what it changes.
abbrev pub TakesLog : Type 0
TakesLog = (count : FactRow → ℕ) (e : FactUpdate) (f : FactLists) → IsChangedFrom count f → IsChangedFrom count (with_entry e f)

-- Trimming logs what it changes.
abbrev pub TrimsLog : Type 0
TrimsLog = (count : FactRow → ℕ) (t : Suite) (f : FactLists) → IsChangedFrom count f → IsChangedFrom count (trimmed t f)

-- The new rows are the old ones, minus those gone, plus those put.
abbrev pub ChangesMake : Type 0
ChangesMake = (count : FactRow → ℕ) (f : FactLists) (put gone : List FactRow) → IsChangedFrom count f → IsDifference f.came f.left put gone → AreMade count (rows_of f) put gone
