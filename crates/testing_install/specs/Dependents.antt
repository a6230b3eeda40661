-- The rows with a clause that names a name.
use Rattle.std.specs.Prelude.{◌≡◌, ℕ, ◌<◌, Bool, true, List, Contains}
use Rattle.std.specs.List.{list_any, All}
use Rattle.std.specs.Str.{bytes_eq}
use Rattle.deb_control.specs.declared.binary.Binary.{Binary}
use Rattle.deb_control.specs.declared.relation.Clause.{Clause}
use Rattle.testing_install.specs.Index.{PlacesByName, places_at}

-- an alternative of the clause has the name
abbrev pub names : Clause → List ℕ → Bool
names clause name = list_any (λ a. bytes_eq a.name name) clause

-- a clause of the row names it
abbrev pub needs_name : Binary → List ℕ → Bool
needs_name row name = list_any (λ clause. names clause name) row.clauses

-- the new map has the places of the old one, the place at each name that passes, and at no name a place above all of
-- these
pub record IsNotedAt (passes : List ℕ → Bool) (old new : PlacesByName) (place : ℕ) : Type 0 where
  pub stays : (name : List ℕ) (k : ℕ) → Contains (places_at old name) k → Contains (places_at new name) k
  pub noted : (name : List ℕ) → passes name ≡ true → Contains (places_at new name) place
  pub within : (name : List ℕ) (n : ℕ) → place < n → All (λ k. k < n) (places_at old name) → All (λ k. k < n) (places_at new name)
