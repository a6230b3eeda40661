-- The content of a list that shows why a row isn't installable: its lines, and who meets a clause (Debian Policy 7.1,
-- 7.2 and 7.5).
use Rattle.std.specs.Prelude.{ℕ, ◌-◌, Bool, false, List, map, filter, length, Option, None, option_map}
use Rattle.std.specs.List.{slice_get, range_with_len}
use Rattle.std.specs.Option.{option_map_or}
use Rattle.deb_control.specs.declared.binary.Binary.{Binary}
use Rattle.deb_control.specs.declared.relation.Clause.{Clause}
use Rattle.testing_install.specs.Satisfies.{meets}
use Rattle.testing_rules_model.specs.declared.suite.RowIn.{RowIn}
use Rattle.testing_rules_model.specs.JudgedRows.{row_of}
use Rattle.testing_rules_refusals.specs.declared.needs.Need.{Need}
use Rattle.testing_install_why.specs.declared.Step.{Step}

-- the packages of the rows
abbrev pub packages : List RowIn → List Binary
packages rows = map (λ r. r.binary) rows

-- a row and a clause of it
pub record RowNeed : Type 0 where
  pub row : RowIn
  pub clause : Clause

-- in the code's type
abbrev pub need_of : Need → RowNeed
need_of n = record { row = row_of n.row; clause = n.clause.now }

-- the step with the number, counted from the last one as 1 (this office decides it: the row in question comes first)
abbrev pub step_at : List Step → ℕ → Option Step
step_at steps number = slice_get steps (length steps - number)

-- the row with its clause of this number
abbrev pub need_in : ℕ → RowIn → Option RowNeed
need_in need r = option_map (λ c. record { row = r; clause = c }) (slice_get r.binary.clauses need)

-- the row and the clause of a step
abbrev pub need_by : List RowIn → Step → Option RowNeed
need_by rows step = option_map_or (need_in step.need) (slice_get rows step.place) None

-- the row and the clause of the line with the number
abbrev pub need_at : List RowIn → List Step → ℕ → Option RowNeed
need_at rows steps number = option_map_or (need_by rows) (step_at steps number) None

-- the row of the line with the number meets the clause (Debian Policy 7.1 and 7.5)
abbrev pub is_provider : List RowIn → List Step → Clause → ℕ → Bool
is_provider rows steps clause number = option_map_or (λ n. meets n.row.binary clause) (need_at rows steps number) false

-- the numbers of the lines whose rows meet the clause
abbrev pub providers : List RowIn → List Step → Clause → List ℕ
providers rows steps clause = filter (is_provider rows steps clause) (range_with_len 1 (length steps))

-- the given rows that meet the clause
abbrev pub meeting : Clause → List RowIn → List RowIn
meeting clause rows = filter (λ r. meets r.binary clause) rows
