-- The numbers of the lines at each name that their rows provide.
use Rattle.std.specs.Prelude.{◌≡◌, ℕ, ◌+◌, ◌<◌, true, List, length, Some, Contains}
use Rattle.std.specs.List.{All, flat_map}
use Rattle.deb_control.specs.declared.relation.Clause.{Clause}
use Rattle.testing_install.specs.Index.{PlacesByName, provides_name, places_at}
use Rattle.testing_install_why.specs.declared.Step.{Step}
use Rattle.testing_rules_items.specs.Words.{Text}
use Rattle.testing_rules_model.specs.declared.suite.RowIn.{RowIn}
use Rattle.testing_rules_refusals.specs.Needs.{RowNeed, need_at}

-- the numbers at each name are numbers of lines, among them every line whose row provides the name
pub record IsLineIndex (rows : List RowIn) (steps : List Step) (noted : PlacesByName) : Type 0 where
  pub within : (name : Text) → All (λ k. k < length steps + 1) (places_at noted name)
  pub complete : (name : Text) (k : ℕ) (n : RowNeed) → 0 < k → k < length steps + 1 → need_at rows steps k ≡ Some n → provides_name n.row.binary name ≡ true
      → Contains (places_at noted name) k

-- the numbers at the names of the clause's alternatives
abbrev pub numbers_named : PlacesByName → Clause → List ℕ
numbers_named noted clause = flat_map (λ a. places_at noted a.name) clause
