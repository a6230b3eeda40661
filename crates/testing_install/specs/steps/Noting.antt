-- How a place is added to those at a name.
use Rattle.std.specs.Prelude.{ℕ, ◌-◌, Bool, false, ◌==◌, if◌then◌else◌, List, [], ◌∷◌, ◌++◌, length}
use Rattle.std.specs.List.{slice_get}
use Rattle.std.specs.Option.{option_map_or}

-- the place is the last of these
abbrev pub is_last : List ℕ → ℕ → Bool
is_last places place = option_map_or (λ last. last == place) (slice_get places (length places - 1)) false

-- the places with one more at the end, unless it is already the last
abbrev pub with_place : List ℕ → ℕ → List ℕ
with_place places place = if is_last places place then places else places ++ place ∷ []
