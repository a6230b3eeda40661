-- How the rows of facts change. This office decides to keep facts as rows.
use Rattle.std.specs.Prelude.{◌≡◌, ℕ, ◌+◌, ◌⊎◌, List}
use Rattle.testing_rules_model.specs.declared.fact_row.FactRow.{FactRow}
use Rattle.testing_rules_model.specs.FactLists.{FactLists}
use Rattle.testing_rules_model.specs.FactRows.{rows_of, times}

-- the facts' rows are the counted ones, plus those that came, minus those that left
abbrev pub IsChangedFrom : (FactRow → ℕ) → FactLists → Type 0
IsChangedFrom count f = (r : FactRow) → times r (rows_of f) + times r f.left ≡ count r + times r f.came

-- the rows that came and didn't leave, and the other way round: no row is on both sides
pub record IsDifference (came left put gone : List FactRow) : Type 0 where
  pub balance : (r : FactRow) → times r put + times r left ≡ times r gone + times r came
  pub apart : (r : FactRow) → (times r put ≡ 0) ⊎ (times r gone ≡ 0)
