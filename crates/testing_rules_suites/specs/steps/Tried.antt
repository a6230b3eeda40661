-- A change tried on each architecture in turn.
use Rattle.std.specs.Prelude.{◌≡◌, ℕ, ◌<◌, Bool, true, List, length, Option, Some, option_map}
use Rattle.std.specs.List.{All, slice_get, filter_map, range_with_len}
use Rattle.std.specs.Str.{bytes_eq}
use Rattle.testing_install.specs.Closed.{marked}
use Rattle.testing_rules_model.specs.declared.suite.RowIn.{RowIn}
use Rattle.testing_rules_model.specs.declared.update.Offender.{Offender}
use Rattle.testing_rules_suites.specs.steps.Changes.{has}
use Rattle.testing_rules_model.specs.Moves.{first_of}
use Rattle.testing_rules_suites.specs.steps.PresentSteps.{IsOn}
use Rattle.testing_rules_suites.specs.steps.Trials.{IsFirstLost}
use Rattle.testing_rules_items.specs.Words.{Text}

-- the row that an architecture would lose, if it would lose one
abbrev pub told_on : (ℕ → Option Text) → ℕ → Option Offender
told_on tells arch = option_map (λ n. record { arch = arch; «package» = n }) (tells arch)

-- the first such row, by architecture in listed order
abbrev pub first_told : ℕ → (ℕ → Option Text) → Option Offender
first_told archs tells = first_of (filter_map (told_on tells) (range_with_len 0 archs))

-- on each architecture a trial of the change gives this name
pub record Tells (pool : List RowIn) (stands : List Bool) (leaving coming : List ℕ) (tells : ℕ → Option Text) : Type 0 where
  pub each : (arch : ℕ) (there : List Bool) → length there ≡ length pool → IsOn arch pool (marked stands) (marked there)
      → (name : Option Text) → IsFirstLost arch pool there leaving coming name → name ≡ tells arch

-- the places of a change are places of the pool's rows
pub record IsWithin (pool : List RowIn) (leaving coming : List ℕ) : Type 0 where
  pub leaving_within : All (λ k. k < length pool) leaving
  pub coming_within : All (λ k. k < length pool) coming

-- the present rows of the source leave
pub record IsRemovalOf (pool : List RowIn) (stands : List Bool) (name : Text) (leaving : List ℕ) : Type 0 where
  pub exact : (k : ℕ) (r : RowIn) → slice_get pool k ≡ Some r → marked stands k ≡ true → has leaving k ≡ bytes_eq r.binary.source name
  pub stood : (k : ℕ) → has leaving k ≡ true → marked stands k ≡ true
