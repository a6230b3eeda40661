-- Which rows of a pool are present in testing.
use Rattle.std.specs.Prelude.{◌≡◌, ℕ, Bool, true, List, Some, Contains}
use Rattle.std.specs.List.{slice_get}
use Rattle.testing_rules_model.specs.declared.suite.RowIn.{RowIn}
use Rattle.testing_rules_model.specs.InOrder.{AreByKey}

-- the rows are the present ones of the pool, in order
pub record IsShown (pool : List RowIn) (stands : ℕ → Bool) (rows : List RowIn) : Type 0 where
  pub by_key : AreByKey rows
  pub within : (r : RowIn) → Contains rows r → (k : ℕ) × (slice_get pool k ≡ Some r) × (stands k ≡ true)
  pub all : (k : ℕ) (r : RowIn) → slice_get pool k ≡ Some r → stands k ≡ true → Contains rows r

-- a pool's rows, which of them are present, and the number of architectures
pub record CarriedState : Type 0 where
  pub rows : List RowIn
  pub stands : List Bool
  pub archs : ℕ
