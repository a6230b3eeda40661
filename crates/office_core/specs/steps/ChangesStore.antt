-- What a call that may change a store leaves of what is known of it.
use Rattle.std.specs.Prelude.{◌≡◌, Bool, Result, is_ok}
use Rattle.office_store_keeper.specs.declared.keeper.Keeper.{Ghosts}
use Rattle.office_core_replies.specs.Answered.{CountedDelivery}
use Rattle.office_core_store.specs.StaysTrusted.{StaysTrusted}
use Rattle.office_core_replies.specs.declared.faults.DeliverFault.{DeliverFault}
use Rattle.office_core_replies.specs.declared.faults.Held.{Held}

-- The setup stays. If a store is trusted after the call, it was so before, and is legible if it was. If nobody else
-- writes it, it stays trusted unless the disk failed.
pub record ChangesStore {K : Type 0} (keeper : Ghosts K) (old new : K) (went_well : Bool) : Type 0 where
  pub setup : keeper.setup new ≡ keeper.setup old
  pub before : keeper.is_trusted new → keeper.is_trusted old
  pub legible : keeper.is_trusted new → keeper.is_legible old → keeper.is_legible new
  pub lasts : StaysTrusted keeper old new went_well

-- a call that answers as a delivery would be answered, and keeps nothing
pub record KeepsNothing {K : Type 0} (keeper : Ghosts K) (old new : K) (result : Result Held DeliverFault) : Type 0 where
  pub same : keeper.is_trusted new → keeper.content new ≡ keeper.content old
  pub changes : ChangesStore keeper old new (is_ok result)
  pub counted : CountedDelivery (keeper.refusals old) (keeper.refusals new) result
