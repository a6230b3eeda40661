-- What an order shows: one path through it.
use Rattle.std.specs.Prelude.{◌≡◌, ℕ, Bool, true, false, List, [], ◌∷◌, Some}
use Rattle.std.specs.List.{slice_get}
use Rattle.deb_control.specs.declared.binary.Binary.{Binary}
use Rattle.deb_control.specs.declared.relation.Clause.{Clause}
use Rattle.testing_install.specs.Among.{IsInstallableAmong}
use Rattle.testing_install.specs.Closed.{IsMet}
use Rattle.testing_install.specs.Satisfies.{meets}
use Rattle.testing_install_why.specs.declared.Step.{Step}
use Rattle.testing_install_why.specs.Order.{IsStep}

-- the step is one of the order's
pub record IsIn (order : List Step) (step : Step) : Type 0 where
  pub number : ℕ
  pub stands : slice_get order number ≡ Some step

-- the row at the place is present and meets the clause
pub record IsMetAt (rows : List Binary) (there : ℕ → Bool) (clause : Clause) (place : ℕ) : Type 0 where
  pub row : Binary
  pub stands : slice_get rows place ≡ Some row
  pub here : there place ≡ true
  pub does : meets row clause ≡ true

-- the row at the place was installable before, and meets the clause
pub record WasMetAt (rows : List Binary) (before : ℕ → Bool) (clause : Clause) (place : ℕ) : Type 0 where
  pub row : Binary
  pub stands : slice_get rows place ≡ Some row
  pub was : IsInstallableAmong rows before place
  pub does : meets row clause ≡ true

-- from this step on, each next row is present and meets the clause before it, all are in the order, and no present row
-- meets the last clause
abbrev pub IsChain : List Binary → (ℕ → Bool) → List Step → Step → List Step → Type 0
IsChain rows there order step [] = IsIn order step × (s : IsStep rows step) × (IsMet rows there s.clause → ⊥)
IsChain rows there order step (next ∷ rest) = IsIn order step × (s : IsStep rows step) × IsMetAt rows there s.clause next.place × IsChain rows there order next rest

-- from this step on, the change also breaks each next row, which met the clause before it; all are in the order, and a
-- leaving row met the last clause
abbrev pub IsBreak : List Binary → (ℕ → Bool) → (ℕ → Bool) → List Step → Step → List Step → Type 0
IsBreak rows before after order step [] = IsIn order step × (s : IsStep rows step) × (leaver : ℕ) × WasMetAt rows before s.clause leaver × (after leaver ≡ false)
IsBreak rows before after order step (next ∷ rest) = IsIn order step × (s : IsStep rows step) × WasMetAt rows before s.clause next.place × (after next.place ≡ true) × IsBreak rows before after order next rest
