-- Rows that may be in testing during a run, by place, and the places of those with a text.
use Rattle.std.specs.Prelude.{◌≡◌, ℕ, ◌<◌, List, map, length, Some, Contains}
use Rattle.std.specs.List.{All, slice_get}
use Rattle.deb_control.specs.declared.binary.Binary.{Binary}
use Rattle.testing_install.specs.Index.{PlacesByName, places_at}
use Rattle.testing_install.specs.steps.Index.{IsIndex}
use Rattle.testing_rules_model.specs.declared.suite.RowIn.{RowIn}
use Rattle.testing_rules_items.specs.Words.{Text}

-- the sources that rows name
abbrev pub sources_of : List RowIn → List Text
sources_of rows = map (λ r. r.binary.source) rows

-- the packages of rows
abbrev pub packages_of : List RowIn → List Binary
packages_of rows = map (λ r. r.binary) rows

-- the map has at each text its places among the texts, and no others
pub record IsTextIndex (texts : List Text) (index : PlacesByName) : Type 0 where
  pub within : (text : Text) → All (λ k. k < length texts) (places_at index text)
  pub complete : (k : ℕ) (text : Text) → slice_get texts k ≡ Some text → Contains (places_at index text) k

-- all places below the count, with repetitions, in any order
pub record HasPlaces (count : ℕ) (places : List ℕ) : Type 0 where
  pub within : All (λ k. k < count) places
  pub each : (k : ℕ) → k < count → Contains places k

-- the two maps are the indexes of the rows by source and by the names that their packages provide
pub record IsPool (rows : List RowIn) (by_source by_name : PlacesByName) : Type 0 where
  pub sources : IsTextIndex (sources_of rows) by_source
  pub names : IsIndex (packages_of rows) by_name

-- the same, with a list of the rows' places
pub record IsOrderedPool (rows : List RowIn) (by_source by_name : PlacesByName) (order : List ℕ) : Type 0 where
  pub indexed : IsPool rows by_source by_name
  pub places : HasPlaces (length rows) order
