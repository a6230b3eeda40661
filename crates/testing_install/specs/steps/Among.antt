-- Steps beside `specs/Among.antt`.
use Rattle.std.specs.Prelude.{◌≡◌, ℕ, Bool, true, List}
use Rattle.std.specs.List.{list_any}
use Rattle.deb_control.specs.declared.binary.Binary.{Binary}
use Rattle.testing_install.specs.Satisfies.{meets}
use Rattle.testing_install.specs.Closed.{IsClosed, IsInside}

-- the set is closed and contains only present rows, and every such set is inside it
pub record IsGreatestAmong (rows : List Binary) (there set : ℕ → Bool) : Type 0 where
  pub inside : (k : ℕ) → set k ≡ true → there k ≡ true
  pub closed : IsClosed rows set
  pub greatest : (other : ℕ → Bool) → IsClosed rows other → IsInside rows other there → IsInside rows other set

-- the row meets some clause of the other
abbrev pub may_need : Binary → Binary → Bool
may_need other row = list_any (meets row) other.clauses
