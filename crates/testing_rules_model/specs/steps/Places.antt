-- The place of an element in a list.
use Rattle.std.specs.Prelude.{◌≡◌, ℕ, ◌<◌, ◌≤◌, List, length, Result, slice_set}
use Rattle.std.specs.Prelude.{Ok, Err}
use Rattle.std.specs.List.{insert}

-- the list with the element has it in the place of the one there, or before it
abbrev pub IsPlaceFor : {A : Type 0} → List A → A → List A → Result ℕ ℕ → Type 0
IsPlaceFor xs x put (Ok i) = (i < length xs) × (put ≡ slice_set xs i x)
IsPlaceFor xs x put (Err i) = (i ≤ length xs) × (put ≡ insert xs i x)
