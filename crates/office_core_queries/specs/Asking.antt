-- What a question to an office whose answer is written leaves of its store, and what it counts.
use Rattle.std.specs.Prelude.{◌≡◌, ℕ, Result, Err, is_ok}
use Rattle.office_mail.specs.Counts.{HasRisen}
use Rattle.office_store_keeper.specs.declared.keeper.Keeper.{Ghosts}
use Rattle.office_core_store.specs.declared.faults.StoreFault.{StoreFault}
use Rattle.office_core.specs.Preserves.{Asks}
use Rattle.office_core_store.specs.StaysTrusted.{StaysTrusted}
use Rattle.office_core_queries.specs.declared.faults.AskFault.{AskFault}
use Rattle.office_core_queries.specs.declared.faults.AskFault.TheVariants.{NoMemory, Store, Write}

-- the name of a fault of the store among those of a writer
abbrev pub told : StoreFault → AskFault
told StoreFault.NoMemory = NoMemory
told StoreFault.Store = Store

-- the store counts its refusals and the writer its failures, and neither counts anything else
abbrev pub CountsBoth : {T : Type 0} → ℕ → ℕ → ℕ → ℕ → Result T AskFault → Type 0
CountsBoth before after failed fails (Err Store) = HasRisen before after × (fails ≡ failed)
CountsBoth before after failed fails (Err Write) = (after ≡ before) × HasRisen failed fails
CountsBoth before after failed fails _ = (after ≡ before) × (fails ≡ failed)

-- What is kept stays, and each fault is counted where it occurred. If nobody else writes the store, it stays trusted
-- unless its disk failed.
pub record AsksBoth {K T : Type 0} (keeper : Ghosts K) (old new : K) (failed fails : ℕ) (result : Result T AskFault) : Type 0 where
  pub asks : Asks keeper old new
  pub lasts : StaysTrusted keeper old new (is_ok result)
  pub counted : CountsBoth (keeper.refusals old) (keeper.refusals new) failed fails result
