-- The state of the store in memory.
use Rattle.std.specs.Prelude.{ℕ, List}
use Rattle.std.specs.FinMap.{from_entries}
use Rattle.office_mail.specs.Lists.{Lists}
use Rattle.office_mail.specs.Kept.{Kept, Place}
use Rattle.testing_rules_model.specs.Suite.{Suite}
use Rattle.testing_rules_model.specs.declared.fact_row.FactRow.{FactRow}
use Rattle.office_store_keeper.specs.declared.values.Reports.{Reports}
use Rattle.office_store_keeper.specs.Content.{Content}
use Rattle.office_store_keeper.specs.FactSet.{set_of_rows}

pub record MemoryState : Type 0 where
  -- the setup that the store was made for
  pub setup : Lists
  -- the texts with their places, by place
  pub mail : List (Place × List ℕ)
  pub runs : List Reports
  pub testing : Suite
  -- the rows of facts, in any order
  pub facts : List FactRow

-- the kept texts at their places
abbrev pub kept_in : List (Place × List ℕ) → Kept
kept_in mail = from_entries mail

-- the content of the store in memory
abbrev pub content_of : MemoryState → Content
content_of s = record { kept = kept_in s.mail; reports = s.runs; testing = s.testing; facts = set_of_rows s.facts }
