-- How the installable rows of a suite are recomputed after a change.
use Rattle.std.specs.Prelude.{◌≡◌, ℕ, ◌<◌, Bool, true, false, ◌⊎◌, List, length, Option, Some, None, Contains, slice_index_or}
use Rattle.std.specs.List.{slice_get}
use Rattle.deb_control.specs.declared.binary.Binary.{Binary}
use Rattle.deb_control.specs.declared.relation.Clause.{Clause}
use Rattle.testing_install.specs.Satisfies.{meets}
use Rattle.testing_install.specs.Closed.{IsClosed, IsInside, marked}
use Rattle.testing_install.specs.steps.Among.{may_need}

-- a clause needs a look if the lost row met it, or if no lost row is given
abbrev pub suspects : Option Binary → Clause → Bool
suspects None clause = true
suspects (Some row) clause = meets row clause

-- a marked or waiting row meets the clause
pub record IsHeld (rows : List Binary) (marks : List Bool) (waiting : List ℕ) (clause : Clause) : Type 0 where
  pub place : ℕ
  pub row : Binary
  pub stands : slice_get rows place ≡ Some row
  pub here : (marked marks place ≡ true) ⊎ Contains waiting place
  pub does : meets row clause ≡ true

-- there is one mark per row, and all waiting places are rows
pub record IsSized (rows : List Binary) (marks : List Bool) (waiting : List ℕ) : Type 0 where
  pub long : length marks ≡ length rows
  pub waiting_in : (k : ℕ) → Contains waiting k → k < length rows

-- what is true between two looks, while the suspect clauses of the rows todo wait: every closed set of present rows is
-- among the marked rows, each other clause of a marked row is held, and the fallen rows are those that had a mark at
-- first and lost it
pub record IsSettling (rows : List Binary) (there : ℕ → Bool) (first marks : List Bool) (waiting fallen todo : List ℕ) (lost : Option Binary) : Type 0 where
  pub inside : (k : ℕ) → marked marks k ≡ true → there k ≡ true
  pub keeps : (other : ℕ → Bool) → IsClosed rows other → IsInside rows other there → IsInside rows other (marked marks)
  pub held : (k : ℕ) (row : Binary) (i : ℕ) (d : Clause) → slice_get rows k ≡ Some row → marked marks k ≡ true → i < length row.clauses
      → (Contains todo k × (suspects lost (slice_index_or row.clauses i d) ≡ true)) ⊎ IsHeld rows marks waiting (slice_index_or row.clauses i d)
  pub fewer : (k : ℕ) → marked marks k ≡ true → marked first k ≡ true
  pub fell : (k : ℕ) → Contains fallen k → (marked first k ≡ true) × (marked marks k ≡ false)
  pub all : (k : ℕ) → marked first k ≡ true → marked marks k ≡ false → Contains fallen k

-- what is true while rows get their marks back: the rows fresh have come or got one, the dependents of those from next
-- on are still to be visited; before the change the old set was marked
pub record IsReviving (rows : List Binary) (there old : ℕ → Bool) (start marks : List Bool) (fresh : List ℕ) (next : ℕ) : Type 0 where
  pub inside : (k : ℕ) → marked marks k ≡ true → there k ≡ true
  pub grown : (k : ℕ) → marked start k ≡ true → marked marks k ≡ true
  pub known : (k : ℕ) → marked marks k ≡ true → (old k ≡ true) ⊎ Contains fresh k
  pub done : (j d : ℕ) (row : Binary) (k : ℕ) (other : Binary) → j < next → j < length fresh → slice_get rows (slice_index_or fresh j d) ≡ Some row
      → slice_get rows k ≡ Some other → there k ≡ true → may_need other row ≡ true → marked marks k ≡ true

-- the result of visiting the first n places: the present rows there are marked, and each row with a new mark is present
-- and among the fresh ones
pub record IsRevived (there : ℕ → Bool) (old new : List Bool) (old_fresh new_fresh places : List ℕ) (n : ℕ) : Type 0 where
  pub inside : (k : ℕ) → marked new k ≡ true → (marked old k ≡ true) ⊎ (there k ≡ true)
  pub grown : (k : ℕ) → marked old k ≡ true → marked new k ≡ true
  pub known : (k : ℕ) → marked new k ≡ true → (marked old k ≡ true) ⊎ Contains new_fresh k
  pub stays : (j d : ℕ) → j < length old_fresh → (j < length new_fresh) × (slice_index_or new_fresh j d ≡ slice_index_or old_fresh j d)
  pub within : (m : ℕ) → ((k : ℕ) → Contains places k → k < m) → ((k : ℕ) → Contains old_fresh k → k < m) → (k : ℕ) → Contains new_fresh k → k < m
  pub done : (j d : ℕ) → j < n → j < length places → there (slice_index_or places j d) ≡ true → marked new (slice_index_or places j d) ≡ true
