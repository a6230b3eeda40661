-- How an office's tables are made in a new database, one after another.
use Rattle.std.specs.Prelude.{◌≡◌, ℕ, [], Result, IsTrue, OnOk, OnErr}
use Rattle.std.specs.Borrow.{MutBor}
use Rattle.sqlite.specs.Change.{created, next_tree, KeepsRows}
use Rattle.sqlite.specs.Held.{Held, state}
use Rattle.sqlite.specs.Schema.{Schema}
use Rattle.sqlite.specs.State.{State, HasCleanDisk}
use Rattle.sqlite.specs.Store.{Ghosts}
use Rattle.sqlite.specs.Table.{Table}
use Rattle.sqlite.specs.declared.error.Error.{Error}
use Rattle.office_store_tables.specs.Layout.{no_schema, office, mail, run, testing_source, testing_row, fact, fact_delays}
use Rattle.office_store_testing_tables.specs.Tables.{IsTrusted}
use Rattle.office_store_testing_tables.specs.steps.Tables.{Lasts}

-- the schema after each table in turn
abbrev pub schema_of_one : Schema
schema_of_one = created no_schema office

abbrev pub schema_of_two : Schema
schema_of_two = created schema_of_one mail

abbrev pub schema_of_three : Schema
schema_of_three = created schema_of_two run

abbrev pub schema_of_four : Schema
schema_of_four = created schema_of_three testing_source

abbrev pub schema_of_five : Schema
schema_of_five = created schema_of_four testing_row

abbrev pub schema_of_six : Schema
schema_of_six = created schema_of_five fact

-- this is the schema so far, in an open transaction
pub record IsBuilding (schema : Schema) (s : State) : Type 0 where
  pub schema_is : s.now.schema ≡ schema
  pub begun : IsTrue s.in_transaction

-- a table was made, without rows; the earlier tables keep theirs, and nothing was committed
pub record Makes (schema : Schema) (table : Table) (old new : State) : Type 0 where
  pub schema_is : new.now.schema ≡ created schema table
  pub begun : IsTrue new.in_transaction
  pub committed : new.committed ≡ old.committed
  pub empty : new.now.trees (next_tree schema) ≡ []
  pub others : KeepsRows schema.tables old.now.trees new.now.trees

-- the seven tables were made, without rows
pub record MakesAll (old new : State) : Type 0 where
  pub schema_is : new.now.schema ≡ created schema_of_six fact_delays
  pub begun : IsTrue new.in_transaction
  pub committed : new.committed ≡ old.committed
  pub office : new.now.trees 0 ≡ []
  pub mail : new.now.trees 1 ≡ []
  pub runs : new.now.trees 3 ≡ []
  pub sources : new.now.trees 4 ≡ []
  pub rows : new.now.trees 6 ≡ []
  pub facts : new.now.trees 8 ≡ []
  pub delays : new.now.trees 10 ≡ []

-- What a step leaves that makes tables: the transaction still belongs to its connection. A connection trusted after the
-- step was trusted before it, and a trusted one stays trusted if the step succeeds over a clean disk. If the step
-- succeeds, the tables are made as the last argument says; if it fails, what was committed stays.
pub record Creates {S : Type 0} (store : Ghosts S) (old new : MutBor (Held S)) (result : Result ℕ Error) (are_made : State → State → Type 0) : Type 0 where
  pub same_reference : new.ghost_name ≡ old.ghost_name
  pub before : IsTrusted (state store new.now) → IsTrusted (state store old.now)
  pub lasts : Lasts (state store old.now) (state store new.now)
  pub stays : HasCleanDisk (state store new.now) → IsTrusted (state store old.now) → OnOk result (IsTrusted (state store new.now))
  pub made : IsTrusted (state store new.now) → OnOk result (are_made (state store old.now) (state store new.now))
  pub err : IsTrusted (state store new.now) → OnErr result ((state store new.now).committed ≡ (state store old.now).committed)
