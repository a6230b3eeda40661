-- Steps beside `specs/Tables.antt`.
use Rattle.std.specs.Prelude.{◌≡◌}
use Rattle.sqlite.specs.State.{State}
use Rattle.office_store_testing_tables.specs.Tables.{Endures}

-- the store endures, and the limit on the steps of a statement is unchanged
pub record Lasts (old new : State) : Type 0 where
  pub endures : Endures old new
  pub limit : new.step_limit ≡ old.step_limit
