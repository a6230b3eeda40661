-- The office's words for a fault of its store, and how refusals are counted.
use Rattle.std.specs.Prelude.{◌≡◌, ℕ, Result, Err}
use Rattle.office_mail.specs.Counts.{HasRisen}
use Rattle.office_store_keeper.specs.declared.faults.KeepFault.{KeepFault}
use Rattle.office_store_keeper.specs.declared.faults.KeepFault.TheVariants as keep
use Rattle.office_core_store.specs.declared.faults.StoreFault.{StoreFault}
use Rattle.office_core_store.specs.declared.faults.StoreFault.TheVariants.{NoMemory, Store}

-- the office's name for a store's fault
abbrev pub told : KeepFault → StoreFault
told keep.NoMemory = NoMemory
told (keep.Store cause) = Store

-- the count rose if the store failed, and stays otherwise
abbrev pub Counted : {T : Type 0} → ℕ → ℕ → Result T StoreFault → Type 0
Counted before after (Err Store) = HasRisen before after
Counted before after _ = after ≡ before
