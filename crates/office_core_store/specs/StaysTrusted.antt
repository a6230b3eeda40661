-- When a store stays trusted.
use Rattle.std.specs.Prelude.{◌≡◌, ◌≤◌, ◌⊎◌, Bool, true}
use Rattle.office_mail.specs.Counts.{HasRisen}
use Rattle.office_store_keeper.specs.declared.keeper.Keeper.{Ghosts}

-- A clean store stays trusted if it was trusted and the call went well, and otherwise unless the disk failed. No call
-- makes a store clean, and no failure of the disk is forgotten.
pub record StaysTrusted {K : Type 0} (keeper : Ghosts K) (old new : K) (went_well : Bool) : Type 0 where
  pub clean : keeper.is_clean new → keeper.is_clean old
  pub faults : keeper.disk_faults old ≤ keeper.disk_faults new
  pub stays : keeper.is_clean new → keeper.is_trusted old → went_well ≡ true → keeper.is_trusted new
  pub shut : keeper.is_clean new → keeper.is_trusted old → keeper.is_trusted new ⊎ HasRisen (keeper.disk_faults old) (keeper.disk_faults new)
