-- Tables in the form in which an office writes them.
use Rattle.std.specs.Prelude.{◌≡◌, ◌<◌, ◌≤◌, ℕ, List, length, Some, IsSome, Ok}
use Rattle.std.specs.FinMap.{get}
use Rattle.std.specs.Str.{IsUtf8}
use Rattle.sqlite.specs.Order.{Row}
use Rattle.sqlite.specs.Tree.{Trees}
use Rattle.sqlite_rules.specs.Lists.{Has}
use Rattle.office_mail.specs.Kept.{Place}
use Rattle.office_mail.specs.Lists.{Lists}
use Rattle.office_mail.specs.Setup.{setup_in}
use Rattle.office_store_keeper.specs.declared.values.Reports.{Reports}
use Rattle.office_store_testing_tables.specs.declared.said.Said.{Said}
pub use Rattle.office_store_testing_tables.specs.Tables.{IsWhole}
use Rattle.office_store_testing_tables.specs.Tables.{kept_rows, said_in, run_map}
use Rattle.office_store_testing_tables.specs.Entries.{source_map, entry_map}
use Rattle.office_store_testing_tables.specs.FactTables.{fact_in, delays_in}
use Rattle.office_store_testing_tables.specs.TableContent.{source_at, row_at, release_place}

-- the content of the office's only row
pub record SaysOnce (rows : List Row) : Type 0 where
  pub said : Said
  pub is : said_in rows ≡ Some said
  pub once : length rows ≡ 1
  pub schema : said.schema < 4_294_967_296
  pub finished : said.finished < 4_294_967_296
  pub setup : IsUtf8 said.setup

-- the reports of exactly the runs up to a number: each run has them, and there are as many rows as runs
pub record AreReported (rows : List Row) (finished : ℕ) : Type 0 where
  pub each : (run : ℕ) → 1 ≤ run → run ≤ finished → IsSome (get (run_map rows) run)
  pub count : length rows ≡ finished
  pub texts : (run : ℕ) (reports : Reports) → get (run_map rows) run ≡ Some reports → IsUtf8 reports.excuses × IsUtf8 reports.updates

-- each entry of testing names a kept message that gives it
pub record AreNamed (setup : Lists) (db : Trees) : Type 0 where
  pub sources : IsWhole (source_map (db 4)) (db 4)
  pub source : (name : List ℕ) (p : Place) → get (source_map (db 4)) name ≡ Some p → IsSome (source_at setup (kept_rows (db 1)) (name, p))
  pub rows : IsWhole (entry_map (db 6)) (db 6)
  pub row : (key : ℕ × List ℕ) (value : Place × ℕ) → get (entry_map (db 6)) key ≡ Some value → IsSome (row_at setup (kept_rows (db 1)) (key, value))

-- each row of both tables is readable, and there is at most one of the last delays
pub record AreRead (release : ℕ) (facts delays : List Row) : Type 0 where
  pub fact : (row : Row) → Has facts row → IsSome (fact_in row)
  pub delay : (row : Row) → Has delays row → IsSome (delays_in release row)
  pub one : length delays ≤ 1

-- the tables are what an office with this setup writes, with schema number 2
pub record IsLegible (setup : Lists) (db : Trees) : Type 0 where
  pub office : SaysOnce (db 0)
  pub schema : office.said.schema ≡ 2
  pub setup_is : setup_in office.said.setup ≡ Ok setup
  pub mail : IsWhole (kept_rows (db 1)) (db 1)
  pub runs : AreReported (db 3) office.said.finished
  pub testing : AreNamed setup db
  pub facts : AreRead (release_place setup) (db 8) (db 10)
