-- Steps beside `specs/Dependents.antt`.
use Rattle.std.specs.Prelude.{◌≡◌, ℕ, ◌<◌, true, List, length, ◌++◌, Some, Contains}
use Rattle.std.specs.List.{slice_get, flat_map, All}
use Rattle.deb_control.specs.declared.binary.Binary.{Binary}
use Rattle.testing_install.specs.Index.{PlacesByName, places_at}
use Rattle.testing_install.specs.steps.Index.{IsIndex}
use Rattle.testing_install.specs.Dependents.{needs_name}

-- the places at each name are places of rows, among them every row with a clause that names it
pub record IsDependents (rows : List Binary) (map : PlacesByName) : Type 0 where
  pub within : (name : List ℕ) → All (λ k. k < length rows) (places_at map name)
  pub complete : (name : List ℕ) (k : ℕ) (row : Binary) → slice_get rows k ≡ Some row → needs_name row name ≡ true → Contains (places_at map name) k

-- the places at each name that the row provides
abbrev pub places_for : PlacesByName → Binary → List ℕ
places_for map row = places_at map row.name ++ flat_map (λ p. places_at map p.name) row.provides

-- the first map has the providers of each name, and the second its dependents
pub record IsGraph (rows : List Binary) (providers dependents : PlacesByName) : Type 0 where
  pub borne : IsIndex rows providers
  pub needed : IsDependents rows dependents
