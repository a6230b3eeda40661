-- The result of a call outside of a transaction that only reads.
use Rattle.std.specs.Prelude.{Result, IfOk, OnOk}
use Rattle.sqlite_trees.specs.declared.store.Store.{Ghosts}
use Rattle.sqlite.specs.Held.{Held, state}
use Rattle.sqlite.specs.State.{HasCleanDisk}
use Rattle.sqlite.specs.Tree.{Trees}
use Rattle.office_store_testing_tables.specs.Tables.{IsTrusted, IsOurs}
use Rattle.office_store_testing_tables.specs.steps.Tables.{Lasts}
use Rattle.office_store_testing_tables.specs.steps.TableSteps.{Same}

-- A connection trusted after the call was trusted before it, and a trusted one stays trusted if the call succeeds over
-- a clean disk. The tables are unchanged, whether it succeeds or not.
pub record LeavesStore {S T E : Type 0} (store : Ghosts S) (old new : Held S) (result : Result T E) : Type 0 where
  pub before : IsTrusted (state store new) → IsTrusted (state store old)
  pub lasts : Lasts (state store old) (state store new)
  pub stays : HasCleanDisk (state store new) → IsTrusted (state store old) → OnOk result (IsTrusted (state store new))
  pub same : IsTrusted (state store new) → Same (state store old) (state store new)

-- if the connection is trusted, the tables are an office's
abbrev pub BeginsOurs : {S : Type 0} → Ghosts S → Held S → Type 0
BeginsOurs store old = IsTrusted (state store old) → IsOurs (state store old)

-- what a successful call finds in the tables
abbrev pub Finds : {S T E : Type 0} → Ghosts S → Held S → Result T E → (Trees → T → Type 0) → Type 0
Finds store new result found = IsTrusted (state store new) → IfOk result (found (state store new).now.trees)

-- what a call leaves that only reads, and what it finds in the tables
pub record Reads {S T E : Type 0} (store : Ghosts S) (old new : Held S) (result : Result T E) (found : Trees → T → Type 0) : Type 0 where
  pub reads : LeavesStore store old new result
  pub finds : Finds store new result found

-- if the connection is trusted, this holds of its tables
abbrev pub HoldsOfTables : {S : Type 0} → Ghosts S → Held S → (Trees → Type 0) → Type 0
HoldsOfTables store held said = IsTrusted (state store held) → said (state store held).now.trees
