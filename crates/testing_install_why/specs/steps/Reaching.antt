-- Progress of the search for the rows that affect one row. A marked row may still be reached.
use Rattle.std.specs.Prelude.{◌≡◌, ℕ, ◌+◌, ◌<◌, Bool, true, false, ◌⊎◌, List, length, Some, Contains}
use Rattle.std.specs.List.{slice_get, All, count_by}
use Rattle.deb_control.specs.declared.binary.Binary.{Binary}
use Rattle.deb_control.specs.declared.relation.Clause.{Clause}
use Rattle.testing_install.specs.Among.{IsInstallableAmong}
use Rattle.testing_install.specs.Closed.{marked}
use Rattle.testing_install.specs.Satisfies.{meets}

-- there is a mark for each of the first n rows, and present rows without one are installable
pub record IsUnreached (rows : List Binary) (there : ℕ → Bool) (unreached : List Bool) (n : ℕ) : Type 0 where
  pub long : length unreached ≡ n
  pub rest : (k : ℕ) → k < n → there k ≡ true → (marked unreached k ≡ true) ⊎ IsInstallableAmong rows there k

-- rows lose their marks and join the list, and no other mark changes
pub record IsGrown (old new : List Bool) (before after : List ℕ) : Type 0 where
  pub long : length new ≡ length old
  pub shut : (k : ℕ) → marked old k ≡ false → marked new k ≡ false
  pub moved : (k : ℕ) → marked new k ≡ false → (marked old k ≡ false) ⊎ Contains after k
  pub stays : (j k : ℕ) → slice_get before j ≡ Some k → slice_get after j ≡ Some k
  pub within : All (λ k. k < length old) before → All (λ k. k < length old) after
  pub count : length after + count_by (λ b. b) new ≡ length before + count_by (λ b. b) old

-- the row at the place has no mark, or doesn't meet the clause
pub record IsShutAt (rows : List Binary) (clause : Clause) (unreached : List Bool) (place : ℕ) : Type 0 where
  pub each : (row : Binary) → slice_get rows place ≡ Some row → meets row clause ≡ true → marked unreached place ≡ false

-- no marked row meets the clause
pub record IsShutFor (rows : List Binary) (unreached : List Bool) (clause : Clause) : Type 0 where
  pub each : (k : ℕ) (row : Binary) → slice_get rows k ≡ Some row → meets row clause ≡ true → marked unreached k ≡ false
