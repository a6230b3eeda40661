-- What a search knows about the rows: their clauses, and the rows that provide each name.
use Rattle.std.specs.Prelude.{◌≡◌, ℕ, Bool, true, List, map, Some, Contains}
use Rattle.std.specs.List.{slice_get}
use Rattle.deb_control.specs.declared.binary.Binary.{Binary}
use Rattle.deb_control.specs.declared.relation.Alternative.{Alternative}
use Rattle.deb_control.specs.declared.relation.Clause.{Clause}
use Rattle.testing_install.specs.declared.claims.Claim.{Claim}
use Rattle.testing_install.specs.Satisfies.{satisfies, meets}
use Rattle.testing_install.specs.steps.Claims.{claims_from}
use Rattle.testing_install.specs.Index.{PlacesByName}
use Rattle.testing_install.specs.steps.Index.{IsIndex}

-- the claims by value, not by place in memory
abbrev pub pairs : List Claim → List (ℕ × Clause)
pairs claims = map (λ c. (c.owner, c.clause.now)) claims

-- the claims are those of the rows, and the map is their index
pub record IsGround (rows : List Binary) (claims : List Claim) (providers : PlacesByName) : Type 0 where
  pub claims_are : pairs claims ≡ claims_from 0 rows
  pub index : IsIndex rows providers

-- no row of the set at these places satisfies the alternative
pub record Misses (rows : List Binary) (set : ℕ → Bool) (alternative : Alternative) (places : List ℕ) : Type 0 where
  pub each : (k : ℕ) (row : Binary) → Contains places k → slice_get rows k ≡ Some row → set k ≡ true → satisfies row alternative ≡ true → ⊥

-- the row at the place is in the set and satisfies the alternative
pub record IsHit (rows : List Binary) (set : ℕ → Bool) (alternative : Alternative) (k : ℕ) : Type 0 where
  pub row : Binary
  pub stands : slice_get rows k ≡ Some row
  pub is_in : set k ≡ true
  pub does : satisfies row alternative ≡ true

-- the row at the place is in the set and meets the clause
pub record MeetsAt (rows : List Binary) (set : ℕ → Bool) (clause : Clause) (k : ℕ) : Type 0 where
  pub row : Binary
  pub stands : slice_get rows k ≡ Some row
  pub is_in : set k ≡ true
  pub does : meets row clause ≡ true
