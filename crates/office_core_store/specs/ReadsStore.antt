-- What a call that only asks a store leaves.
use Rattle.std.specs.Prelude.{◌≡◌, Result, is_ok}
use Rattle.office_store_keeper.specs.declared.keeper.Keeper.{Ghosts}
use Rattle.office_core_store.specs.declared.faults.StoreFault.{StoreFault}
use Rattle.office_core_store.specs.Counted.{Counted}
use Rattle.office_core_store.specs.StaysTrusted.{StaysTrusted}

-- What is kept stays, and so does the setup. If a store is trusted after the call, it was so before, and is legible if
-- it was. If nobody else writes it, it stays trusted unless the disk failed; and it counts its refusals.
pub record ReadsStore {K T : Type 0} (keeper : Ghosts K) (old new : K) (result : Result T StoreFault) : Type 0 where
  pub same : keeper.is_trusted new → keeper.content new ≡ keeper.content old
  pub setup : keeper.setup new ≡ keeper.setup old
  pub before : keeper.is_trusted new → keeper.is_trusted old
  pub legible : keeper.is_trusted new → keeper.is_legible old → keeper.is_legible new
  pub lasts : StaysTrusted keeper old new (is_ok result)
  pub counted : Counted (keeper.refusals old) (keeper.refusals new) result
