-- What taking mail leaves of the finished runs.
use Rattle.std.specs.Prelude.{◌≡◌, Result, OnErr, is_ok}
use Rattle.office_store_keeper.specs.declared.keeper.Keeper.{Ghosts}
use Rattle.office_core.specs.steps.ChangesStore.{ChangesStore}

-- A call that takes mail leaves the reports, testing and the rows of facts, and where it fails, all that is kept.
pub record OnlyTakesMail {K T E : Type 0} (keeper : Ghosts K) (old new : K) (result : Result T E) : Type 0 where
  pub reports : keeper.is_trusted new → (keeper.content new).reports ≡ (keeper.content old).reports
  pub facts : keeper.is_trusted new → (keeper.content new).facts ≡ (keeper.content old).facts
  pub testing : keeper.is_trusted new → keeper.is_legible old → (keeper.content new).testing ≡ (keeper.content old).testing
  pub err : keeper.is_trusted new → OnErr result (keeper.content new ≡ keeper.content old)
  pub changes : ChangesStore keeper old new (is_ok result)
