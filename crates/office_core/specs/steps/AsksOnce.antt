-- What a search among kept texts leaves, which asks each sender once for its next number.
use Rattle.std.specs.Prelude.{List, Result, OnOk}
use Rattle.office_store_keeper.specs.declared.keeper.Keeper.{Ghosts}
use Rattle.office_core_store.specs.declared.faults.StoreFault.{StoreFault}
use Rattle.office_core_store.specs.ReadsStore.{ReadsStore}
use Rattle.office_core.specs.declared.asked.NextFree.{NextFree}
use Rattle.office_core.specs.steps.Asked.{AreFreeFrom}

-- The store is only read, and what the senders answered still shows which numbers are free.
pub record AsksOnce {K T : Type 0} (keeper : Ghosts K) (old new : K) (asked later : List NextFree) (result : Result T StoreFault) : Type 0 where
  pub looks : ReadsStore keeper old new result
  pub known : keeper.is_trusted new → AreFreeFrom (keeper.content old).kept asked → OnOk result (AreFreeFrom (keeper.content old).kept later)
