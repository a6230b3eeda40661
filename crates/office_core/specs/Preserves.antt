-- What a call on an office preserves of what is known of its store.
use Rattle.std.specs.Prelude.{◌≡◌, ℕ, ◌≤◌, false, min, Result, OnErr, is_ok}
use Rattle.office_mail.specs.Counts.{HasRisen, most}
use Rattle.office_store_keeper.specs.declared.keeper.Keeper.{Ghosts}
use Rattle.office_core_store.specs.declared.faults.StoreFault.{StoreFault}
use Rattle.office_core_store.specs.Counted.{Counted}
use Rattle.office_core_store.specs.StaysTrusted.{StaysTrusted}
use Rattle.office_core_facts.specs.State.{IsSound, state_of}

-- a count didn't fall, unless it was above the greatest
abbrev pub HasNotFallen : ℕ → ℕ → Type 0
HasNotFallen before after = min before most ≤ after

-- the store held what an office leaves before a call, and is still trusted after it
abbrev pub Holds : {K : Type 0} → Ghosts K → K → K → Type 0
Holds keeper old new = keeper.is_trusted new × IsSound keeper old

-- the store refused in between and counted it
abbrev pub StoreRefused : {K : Type 0} → Ghosts K → K → K → Type 0
StoreRefused keeper old new = HasRisen (keeper.refusals old) (keeper.refusals new)

-- If a store is trusted after a call, it was trusted before, and holds what an office leaves if it did before. Its
-- setup stays, its count of refusals doesn't fall. If nobody else writes it, it stays trusted unless its disk failed.
pub record Preserves {K : Type 0} (keeper : Ghosts K) (old new : K) : Type 0 where
  pub before : keeper.is_trusted new → keeper.is_trusted old
  pub sound : keeper.is_trusted new → IsSound keeper old → IsSound keeper new
  pub setup : keeper.setup new ≡ keeper.setup old
  pub refusals : HasNotFallen (keeper.refusals old) (keeper.refusals new)
  pub lasts : StaysTrusted keeper old new false

-- a call that leaves what is kept
pub record Asks {K : Type 0} (keeper : Ghosts K) (old new : K) : Type 0 where
  pub carries : Preserves keeper old new
  pub same : keeper.is_trusted new → keeper.content new ≡ keeper.content old

-- A call that may change an office carries on what is known of its store, which counts its refusals. If nobody else
-- writes the store, it stays trusted if the call went well, and otherwise unless its disk failed.
pub record ChangesOffice {K T : Type 0} (keeper : Ghosts K) (old new : K) (result : Result T StoreFault) : Type 0 where
  pub carries : Preserves keeper old new
  pub lasts : StaysTrusted keeper old new (is_ok result)
  pub counted : Counted (keeper.refusals old) (keeper.refusals new) result

-- the same of a question to an office, which leaves what is kept
pub record AsksOffice {K T : Type 0} (keeper : Ghosts K) (old new : K) (result : Result T StoreFault) : Type 0 where
  pub asks : Asks keeper old new
  pub lasts : StaysTrusted keeper old new (is_ok result)
  pub counted : Counted (keeper.refusals old) (keeper.refusals new) result

-- A delivery leaves the finished runs, their reports and testing, and where it fails, all that is kept.
pub record LeavesRuns {K T E : Type 0} (keeper : Ghosts K) (old new : K) (result : Result T E) : Type 0 where
  pub finished : Holds keeper old new → (state_of keeper new).finished ≡ (state_of keeper old).finished
  pub testing : Holds keeper old new → (keeper.content new).testing ≡ (keeper.content old).testing
  pub reports : Holds keeper old new → (keeper.content new).reports ≡ (keeper.content old).reports
  pub err : Holds keeper old new → OnErr result (keeper.content new ≡ keeper.content old)
