-- The kept facts: a set of rows that each name the message giving a fact. This office decides to keep facts as rows.
use Rattle.std.specs.Prelude.{◌≡◌, ℕ, ⊤, is_some, if◌then◌else◌, List, [], ◌∷◌, map, IsSome}
use Rattle.std.specs.FinMap.{FinMap, get, insert, remove, keys, from_entries}
use Rattle.testing_rules_model.specs.declared.fact_row.FactKind.TheVariants.{Delays}
use Rattle.testing_rules_model.specs.declared.fact_row.FactRow.{FactRow}
use Rattle.testing_rules_model.specs.declared.fact_row.FactChanges.{FactChanges}
use Rattle.testing_rules_model.specs.FactRows.{row_order}
pub use Rattle.testing_rules_model.specs.FactRows.{IsFactRow}
use Rattle.office_mail.specs.Lists.{Lists}
use Rattle.office_mail_setup.specs.declared.setup.Role.TheVariants.{Release}
use Rattle.office_mail.specs.Setup.{place_of_role}

-- a set of rows of facts
abbrev pub FactSet : Type 0
FactSet = FinMap row_order ⊤

-- a set contains a row
abbrev pub HasRow : FactSet → FactRow → Type 0
HasRow facts r = IsSome (get facts r)

-- how often: once or never
abbrev pub count_in : FactSet → FactRow → ℕ
count_in facts r = if is_some (get facts r) then 1 else 0

-- the rows of a set, by kind, sender, number and place
abbrev pub rows_in : FactSet → List FactRow
rows_in facts = keys facts

-- the set of these rows
abbrev pub set_of_rows : List FactRow → FactSet
set_of_rows rows = from_entries (map (λ r. (r, tt)) rows)

-- a set without these rows
abbrev pub without_rows : List FactRow → FactSet → FactSet
without_rows [] facts = facts
without_rows (r ∷ rs) facts = without_rows rs (remove facts r)

-- a set with these rows
abbrev pub with_rows : List FactRow → FactSet → FactSet
with_rows [] facts = facts
with_rows (r ∷ rs) facts = with_rows rs (insert facts r tt)

-- the old rows, minus those gone, plus those put
abbrev pub facts_after : FactChanges → FactSet → FactSet
facts_after changes facts = with_rows changes.put (without_rows changes.gone facts)

-- Rows that an office's tables can hold: possible rows of facts, with at most one on delays, the release team's.
pub record AreHoldable (setup : Lists) (facts : FactSet) : Type 0 where
  pub each : (r : FactRow) → HasRow facts r → IsFactRow r
  pub release : (r : FactRow) → HasRow facts r → r.kind ≡ Delays → r.sender ≡ place_of_role Release setup.senders
  pub one : (r s : FactRow) → HasRow facts r → HasRow facts s → r.kind ≡ Delays → s.kind ≡ Delays → r ≡ s
