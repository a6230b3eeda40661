-- Installable among the present rows, when some of the rows are absent.
use Rattle.std.specs.Prelude.{◌≡◌, ℕ, ◌<◌, Bool, true, false, ◌⊎◌, List, [], ◌∷◌, length, Some, slice_set}
use Rattle.std.specs.List.{slice_get}
use Rattle.deb_control.specs.declared.binary.Binary.{Binary}
use Rattle.testing_install.specs.Closed.{IsClosed, IsInside}

-- some closed set of present rows contains the row at the place
abbrev pub IsInstallableAmong : List Binary → (ℕ → Bool) → ℕ → Type 0
IsInstallableAmong rows there k = (set : ℕ → Bool) × IsClosed rows set × IsInside rows set there × (k < length rows) × (set k ≡ true)

-- a list with this value put at each of the places
abbrev pub with_all : Bool → List ℕ → List Bool → List Bool
with_all b [] xs = xs
with_all b (k ∷ ks) xs = with_all b ks (slice_set xs k b)

-- which rows are present after some have left and then some have come
abbrev pub after_change : List ℕ → List ℕ → List Bool → List Bool
after_change leaving coming there = with_all true coming (with_all false leaving there)

-- when the present rows change, the row is lost: it is present and not installable, and before it was installable or
-- absent
abbrev pub IsLost : List Binary → (ℕ → Bool) → (ℕ → Bool) → ℕ → Type 0
IsLost rows before after k = (after k ≡ true) × (IsInstallableAmong rows after k → ⊥) × (IsInstallableAmong rows before k ⊎ (before k ≡ false))

-- the list contains exactly the present rows, in any order and any number of times: each of its rows is at some present
-- place, and each present row has some number in it
pub record IsListOf (rows : List Binary) (there : ℕ → Bool) (listed : List Binary) (place_of number_of : ℕ → ℕ) : Type 0 where
  pub placed : (k : ℕ) (row : Binary) → slice_get listed k ≡ Some row → (slice_get rows (place_of k) ≡ Some row) × (there (place_of k) ≡ true)
  pub numbered : (p : ℕ) (row : Binary) → slice_get rows p ≡ Some row → there p ≡ true → slice_get listed (number_of p) ≡ Some row
