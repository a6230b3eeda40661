-- Steps beside `specs/MemoryState.antt`.
use Rattle.std.specs.Prelude.{◌≤◌, ℕ, not, List, length}
use Rattle.std.specs.List.{filter}
use Rattle.office_mail.specs.Lists.{Lists}
use Rattle.office_mail.specs.Kept.{Place}
use Rattle.testing_rules_model.specs.Suite.{Suite}
use Rattle.testing_rules_model.specs.declared.fact_row.FactRow.{FactRow}
use Rattle.office_store_keeper.specs.declared.values.Letter.{Letter}
use Rattle.office_store_keeper.specs.declared.values.Reports.{Reports}
use Rattle.office_store_keeper.specs.steps.FactSet.{is_among}
use Rattle.office_store_keeper.specs.Provenance.{KnowsArchs}

-- a text at a sender's place, with its number
abbrev pub letter_of : Place × List ℕ → Letter
letter_of e = record { number = e.0.1; text = e.1 }

-- the rows that aren't gone
abbrev pub rows_left : List FactRow → List FactRow → List FactRow
rows_left gone rows = filter (λ r. not (is_among r gone)) rows

-- runs can be numbered, and testing has only architectures of the setup
pub record IsMemoryState (setup : Lists) (runs : List Reports) (testing : Suite) : Type 0 where
  pub few : length runs ≤ 4_294_967_295
  pub known : KnowsArchs setup.archs testing.rows
