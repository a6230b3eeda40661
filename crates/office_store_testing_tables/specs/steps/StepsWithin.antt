-- The result of a step within a transaction, whether it reads or writes.
use Rattle.std.specs.Prelude.{◌≡◌, Result, IfOk, OnOk, OnErr}
use Rattle.std.specs.Borrow.{MutBor}
use Rattle.sqlite_trees.specs.declared.store.Store.{Ghosts}
use Rattle.sqlite.specs.Held.{Held, state}
use Rattle.sqlite.specs.State.{HasCleanDisk}
use Rattle.sqlite.specs.Tree.{Trees}
use Rattle.office_store_keeper.specs.declared.faults.KeepFault.{KeepFault}
use Rattle.office_store_testing_tables.specs.Tables.{IsTrusted}
use Rattle.office_store_testing_tables.specs.steps.Faults.{NeverBad}
use Rattle.office_store_testing_tables.specs.steps.Tables.{Lasts}
use Rattle.office_store_testing_tables.specs.steps.TableSteps.{IsInside, WentOn}

-- The transaction still belongs to its connection. A connection trusted after the step was trusted before it, and a
-- trusted one stays trusted if the step succeeds over a clean disk. Then the transaction continues. No step commits
-- anything.
pub record StepsWithin {S T E : Type 0} (store : Ghosts S) (old new : MutBor (Held S)) (result : Result T E) : Type 0 where
  pub same_reference : new.ghost_name ≡ old.ghost_name
  pub before : IsTrusted (state store new.now) → IsTrusted (state store old.now)
  pub lasts : Lasts (state store old.now) (state store new.now)
  pub stays : HasCleanDisk (state store new.now) → IsTrusted (state store old.now) → OnOk result (IsTrusted (state store new.now))
  pub on : IsTrusted (state store new.now) → OnOk result (WentOn (state store old.now) (state store new.now))
  pub err : IsTrusted (state store new.now) → OnErr result ((state store new.now).committed ≡ (state store old.now).committed)

-- if its connection is trusted, the transaction is open
abbrev pub BeginsInside : {S : Type 0} → Ghosts S → MutBor (Held S) → Type 0
BeginsInside store old = IsTrusted (state store old.now) → IsInside (state store old.now)

-- the effect of a successful step on the tables, or what it shows of them
abbrev pub Yields : {S T E : Type 0} → Ghosts S → MutBor (Held S) → MutBor (Held S) → Result T E → (Trees → Trees → T → Type 0) → Type 0
Yields store old new result made = IsTrusted (state store new.now) → IfOk result (made (state store old.now).now.trees (state store new.now).now.trees)

-- a successful step leaves the database unchanged
abbrev pub LeavesAll : {S T E : Type 0} → Ghosts S → MutBor (Held S) → MutBor (Held S) → Result T E → Type 0
LeavesAll store old new result = IsTrusted (state store new.now) → OnOk result ((state store new.now).now ≡ (state store old.now).now)

-- what a step leaves, and what it makes of the tables or shows of them
pub record Performs {S T E : Type 0} (store : Ghosts S) (old new : MutBor (Held S)) (result : Result T E) (made : Trees → Trees → T → Type 0) : Type 0 where
  pub steps : StepsWithin store old new result
  pub yields : Yields store old new result made

-- the same, and the step, whether it succeeds or fails, never reports a bad row
pub record PerformsNeverBad {S T : Type 0} (store : Ghosts S) (old new : MutBor (Held S)) (result : Result T KeepFault) (made : Trees → Trees → T → Type 0) : Type 0 where
  pub steps : StepsWithin store old new result
  pub yields : Yields store old new result made
  pub bad : NeverBad result

-- what a step leaves that only looks, and what it shows of the tables
pub record Looks {S T E : Type 0} (store : Ghosts S) (old new : MutBor (Held S)) (result : Result T E) (shown : Trees → T → Type 0) : Type 0 where
  pub steps : StepsWithin store old new result
  pub same : LeavesAll store old new result
  pub yields : Yields store old new result (λ db _. shown db)
