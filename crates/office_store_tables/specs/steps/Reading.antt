-- The result of reading the tables to see whether an office wrote them.
use Rattle.std.specs.Prelude.{◌≡◌, ℕ, List, Option, Some, None, Ok}
use Rattle.std.specs.FinMap.{get, len}
use Rattle.std.specs.Str.{IsUtf8}
use Rattle.sqlite.specs.Order.{Row}
use Rattle.sqlite.specs.Tree.{Trees}
use Rattle.office_mail.specs.Lists.{Lists}
use Rattle.office_mail.specs.Setup.{setup_in}
use Rattle.office_store_keeper.specs.declared.values.Reports.{Reports}
use Rattle.office_store_testing_tables.specs.declared.said.Said.{Said}
use Rattle.office_store_testing_tables.specs.Tables.{IsWhole, kept_rows, run_map}
use Rattle.office_store_testing_tables.specs.TableContent.{release_place}
use Rattle.office_store_testing_tables.specs.Legible.{SaysOnce, AreReported, AreNamed, AreRead}

-- an office of schema number 2 and this setup says this number of finished runs, or it isn't one
abbrev pub IsSaidFor : Lists → Said → Option ℕ → Type 0
IsSaidFor setup said (Some finished) = (said.schema ≡ 2) × (setup_in said.setup ≡ Ok setup) × (said.finished ≡ finished)
IsSaidFor setup said None = said.schema ≡ 2 → setup_in said.setup ≡ Ok setup → ⊥

-- the content of the office's only row
pub record SaysFor (setup : Lists) (rows : List Row) (finished : ℕ) : Type 0 where
  pub office : SaysOnce rows
  pub schema : office.said.schema ≡ 2
  pub setup_is : setup_in office.said.setup ≡ Ok setup
  pub count : office.said.finished ≡ finished

-- the number of finished runs in the office's only row, or none if that row isn't for this setup
abbrev pub IsOwnCount : Lists → List Row → Option ℕ → Type 0
IsOwnCount setup rows (Some finished) = SaysFor setup rows finished
IsOwnCount setup rows None = (finished : ℕ) → SaysFor setup rows finished → ⊥

-- the reports of a run are in the table, and are texts
pub record IsRecorded (rows : List Row) (run : ℕ) : Type 0 where
  pub reports : Reports
  pub stands : get (run_map rows) run ≡ Some reports
  pub excuses : IsUtf8 reports.excuses
  pub updates : IsUtf8 reports.updates

-- the tables besides the office's are what an office writes with this many finished runs and kept texts
pub record ReadRest (setup : Lists) (db : Trees) (finished texts : ℕ) : Type 0 where
  pub texts_are : len (kept_rows (db 1)) ≡ texts
  pub mail : IsWhole (kept_rows (db 1)) (db 1)
  pub runs : AreReported (db 3) finished
  pub testing : AreNamed setup db
  pub facts : AreRead (release_place setup) (db 8) (db 10)
