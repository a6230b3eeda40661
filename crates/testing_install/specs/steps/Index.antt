-- Steps beside `specs/Index.antt`.
use Rattle.std.specs.Prelude.{◌≡◌, ℕ, ◌<◌, true, List, length, Some, Contains}
use Rattle.std.specs.List.{slice_get, All}
use Rattle.deb_control.specs.declared.binary.Binary.{Binary}
use Rattle.testing_install.specs.Index.{provides_name, PlacesByName, places_at}

-- the places at each name are places of rows, among them every row that provides the name
pub record IsIndex (rows : List Binary) (map : PlacesByName) : Type 0 where
  pub within : (name : List ℕ) → All (λ k. k < length rows) (places_at map name)
  pub complete : (name : List ℕ) (k : ℕ) (row : Binary) → slice_get rows k ≡ Some row → provides_name row name ≡ true → Contains (places_at map name) k
