-- What an opened database holds.
use Rattle.std.specs.Prelude.{◌≡◌, ◌≢◌, ◌⊎◌, IsTrue, ◌&&◌, ◌==◌, nat_le, if◌then◌else◌, Bool, ℕ, List, [], ◌∷◌, length, codes, Option, Some, None, option_map}
use Rattle.std.specs.List.{filter}
use Rattle.std.specs.Result.{result_ok}
use Rattle.sqlite.specs.Effect.{Database}
use Rattle.sqlite.specs.Order.{Row}
use Rattle.sqlite.specs.Schema.{Schema}
use Rattle.sqlite_schema.specs.declared.schema.Index.{Index}
use Rattle.office_mail.specs.Lists.{Lists}
use Rattle.office_mail.specs.Setup.{setup_in}
use Rattle.office_store_keeper.specs.declared.faults.KeepFault.{KeepFault}
use Rattle.office_store_keeper.specs.declared.faults.KeepFault.TheVariants.{NoMemory, Store}
use Rattle.office_store.specs.declared.openings.OpenFault.{OpenFault}
use Rattle.office_store.specs.declared.openings.OpenFault.TheVariants as opening
use Rattle.office_store_tables.specs.declared.said.Said.{Said}
use Rattle.office_store_tables.specs.Layout.{no_schema, schema_before, office_schema, has_none, table_by, HasEach, HasEachBefore}
use Rattle.office_store_tables.specs.Tables.{IsWhole, kept_rows, office_in, said_in}
use Rattle.office_store_tables.specs.Creating.{IsBlank}
use Rattle.office_store_tables.specs.SetupText.{setup_text}
use Rattle.office_store_tables.specs.Fresh.{IsEmptyFor}
use Rattle.office_store.specs.Migrating.{AreMessages, Migrates}

-- the result for a fault of the store
abbrev pub open_fault : KeepFault → OpenFault
open_fault NoMemory = opening.NoMemory
open_fault (Store cause) = opening.Store cause

-- the setup's text in the office's row, if its id is 1, its schema has this number, and its count of runs fits in 32
-- bits
abbrev pub text_by : ℕ → Option (ℕ × Said) → Option (List ℕ)
text_by number None = None
text_by number (Some (id, said)) = if id == 1 && said.schema == number && nat_le said.finished 4_294_967_295 then Some said.setup else None

-- the kept setup's text, if the office has exactly one row
abbrev pub text_of_one : ℕ → (Row → Option (ℕ × Said)) → List Row → Option (List ℕ)
text_of_one number says [] = None
text_of_one number says (row ∷ []) = text_by number (says row)
text_of_one number says (a ∷ b ∷ rows) = None

-- the kept setup's text, for schema number 2
abbrev pub kept_text : List Row → Option (List ℕ)
kept_text rows = text_of_one 2 office_in rows

-- the same for schema number 1
abbrev pub text_before : List Row → Option (List ℕ)
text_before rows = text_of_one 1 office_in rows

-- the setup in a text, if it is one
abbrev pub lists_by : Option (List ℕ) → Option Lists
lists_by None = None
lists_by (Some text) = result_ok (setup_in text)

-- The database has exactly the office's tables, and was made for this setup.
pub record IsKeptFor (setup : Lists) (db : Database) : Type 0 where
  pub schema : db.schema ≡ office_schema
  pub setup_is : lists_by (kept_text (db.trees 0)) ≡ Some setup

-- The database has exactly the office's six tables of schema 1, with that number, and was made for this setup.
pub record IsKeptBefore (setup : Lists) (db : Database) : Type 0 where
  pub schema : db.schema ≡ schema_before
  pub setup_is : lists_by (text_before (db.trees 0)) ≡ Some setup

-- A database without tables got those of the office, with this setup's text, no mail and no run.
pub record IsNewFor (setup : Lists) (old new : Database) : Type 0 where
  pub fresh : old.schema ≡ no_schema
  pub kept : IsKeptFor setup new
  pub blank : IsBlank new.trees (record { schema = 2; setup = setup_text setup; finished = 0 })
  pub empty : IsEmptyFor setup new.trees

-- A database of schema 1, made for this setup, got the seventh table and the number 2.
pub record IsMigrated (setup : Lists) (old new : Database) : Type 0 where
  pub was : IsKeptBefore setup old
  pub kept : IsKeptFor setup new
  pub migrates : Migrates setup old.trees new.trees

-- How opening changed a database: it was new, or was made for this setup and is unchanged, or was migrated.
abbrev pub IsOpened : Lists → Database → Database → Type 0
IsOpened setup old new = IsNewFor setup old new ⊎ (IsKeptFor setup old × (new ≡ old)) ⊎ IsMigrated setup old new

-- It has schema 1 and was made for this setup. If each letter of its mail has its own place, an order of its finished
-- runs is missing, or a text up to their cover isn't a message with its sender and number.
pub record IsUnreadable (setup : Lists) (db : Database) : Type 0 where
  pub kept : IsKeptBefore setup db
  pub lacks : (said : Said) → said_in (db.trees 0) ≡ Some said → IsWhole (kept_rows (db.trees 1)) (db.trees 1) → AreMessages setup (kept_rows (db.trees 1)) said.finished → ⊥

-- it was made for a setup of other lists
pub record IsKeptForOther (setup : Lists) (db : Database) : Type 0 where
  pub other : Lists
  pub kept : IsKeptFor other db ⊎ IsKeptBefore other db
  pub differs : other ≢ setup

-- it has tables, but wasn't made for any setup
pub record IsUnknown (db : Database) : Type 0 where
  pub used : db.schema ≢ no_schema
  pub unkept : (setup : Lists) → IsKeptFor setup db → ⊥
  pub unkept_before : (setup : Lists) → IsKeptBefore setup db → ⊥

-- it has no tables, exactly the office's seven, or exactly the six of schema 1
abbrev pub IsAlone : Database → Type 0
IsAlone db = (db.schema ≡ no_schema) ⊎ (db.schema ≡ office_schema) ⊎ (db.schema ≡ schema_before)

-- how many indexes stand on the table in this tree; none do where there is no table
abbrev pub indexes_on : Option ℕ → List Index → ℕ
indexes_on None indexes = 0
indexes_on (Some tree) indexes = length (filter (λ index. index.table == tree) indexes)

-- so many stand on the table of this name
abbrev pub has_indexes : List ℕ → ℕ → Schema → Bool
has_indexes name count schema = indexes_on (option_map (λ table. table.tree) (table_by name schema)) schema.indexes == count

-- the office's tables have the indexes of their keys, and none that somebody added (this office refuses these)
abbrev pub has_own_indexes : Schema → Bool
has_own_indexes schema =
    has_indexes (codes "office") 0 schema && has_indexes (codes "mail") 1 schema && has_indexes (codes "run") 0 schema && has_indexes (codes "testing_source") 1 schema
    && has_indexes (codes "testing_row") 1 schema && has_indexes (codes "fact") 1 schema && has_indexes (codes "fact_delays") 0 schema

-- it has none of the office's tables; or each of them or each of schema 1, and on these no index more
abbrev pub IsTakeable : Schema → Type 0
IsTakeable schema = IsTrue (has_none schema) ⊎ ((HasEach schema ⊎ HasEachBefore schema) × IsTrue (has_own_indexes schema))

-- It opens as it was: an opened one has the same content, and only memory running out or a refusal of the database
-- itself keeps it closed.
pub record OpensAsLeft (setup : Lists) (db : Database) : Type 0 where
  pub same : (new : Database) → IsOpened setup db new → new ≡ db
  pub own : IsKeptForOther setup db → ⊥
  pub known : IsUnknown db → ⊥
  pub read : IsUnreadable setup db → ⊥
