-- A database that a refused call didn't change.
use Rattle.std.specs.Prelude.{◌≡◌}
use Rattle.sqlite.specs.State.{State}

-- the database is unchanged, and so is its last commit; it is in a transaction only if it was in one
pub record IsAsItWas (old new : State) : Type 0 where
  pub now : new.now ≡ old.now
  pub committed : new.committed ≡ old.committed
  pub in_transaction : new.in_transaction ≡ old.in_transaction
