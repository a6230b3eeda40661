-- Steps beside `specs/Closed.antt`.
use Rattle.std.specs.Prelude.{ℕ, Bool, List}
use Rattle.deb_control.specs.declared.binary.Binary.{Binary}
use Rattle.testing_install.specs.Closed.{IsClosed, IsInside}

-- the set is closed, and every closed set is inside it
pub record IsGreatestClosed (rows : List Binary) (set : ℕ → Bool) : Type 0 where
  pub closed : IsClosed rows set
  pub greatest : (other : ℕ → Bool) → IsClosed rows other → IsInside rows other set
