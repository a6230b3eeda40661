-- The effect of a finished run on the tables.
use Rattle.std.specs.Prelude.{◌≡◌, ℕ, length, map, Some, None}
use Rattle.std.specs.FinMap.{get, insert, from_entries}
use Rattle.sqlite.specs.Tree.{Trees}
use Rattle.office_store_keeper.specs.declared.values.Finished.{Finished}
use Rattle.office_store_testing_tables.specs.declared.said.Said.{Said}
use Rattle.office_store_keeper.specs.Content.{reports_in}
use Rattle.office_store_testing_tables.specs.Tables.{IsWhole, said_in, run_map}
use Rattle.office_store_testing_tables.specs.steps.TableSteps.{SaysAlone}
use Rattle.office_store_testing_tables.specs.Entries.{source_map, entry_map}
use Rattle.office_store_testing_tables.specs.steps.EntrySteps.{source_entry, row_entry}
use Rattle.office_store_keeper.specs.FactSet.{facts_after}
use Rattle.office_store_testing_tables.specs.steps.FactSteps.{CanStandEach, MovesFacts}

-- the office says this number of runs instead, and otherwise the same
abbrev pub with_count : ℕ → Said → Said
with_count run said = record { schema = said.schema; setup = said.setup; finished = run }

-- The run is newly finished, its reports added to the earlier ones; the tables of testing have exactly the new entries;
-- the facts change as it says; the office says this; the mail is unchanged; and whole tables stay whole.
pub record WritesRun (release : ℕ) (db next : Trees) (run : ℕ) (done : Finished) (said : Said) : Type 0 where
  pub reported : run_map (next 3) ≡ insert (run_map (db 3)) run (reports_in done)
  pub new : get (run_map (db 3)) run ≡ None
  pub sources : source_map (next 4) ≡ from_entries (map source_entry done.testing.sources)
  pub rows : entry_map (next 6) ≡ from_entries (map row_entry done.testing.rows)
  pub facts : CanStandEach release done.facts.put → MovesFacts release db next (facts_after done.facts)
  pub says : said_in (next 0) ≡ Some said
  pub mail : next 1 ≡ db 1
  pub once : SaysAlone (db 0) → length (next 0) ≡ 1
  pub whole_runs : IsWhole (run_map (db 3)) (db 3) → IsWhole (run_map (next 3)) (next 3)
  pub whole_sources : IsWhole (source_map (db 4)) (db 4) → IsWhole (source_map (next 4)) (next 4)
  pub whole_rows : IsWhole (entry_map (db 6)) (db 6) → IsWhole (entry_map (next 6)) (next 6)

-- the same, and the office says what it said except for the count
pub record FinishesRun (release : ℕ) (db next : Trees) (run : ℕ) (done : Finished) : Type 0 where
  pub said : Said
  pub said_is : said_in (db 0) ≡ Some said
  pub writes : WritesRun release db next run done (with_count run said)
