-- Where that comes from which a run brings into testing: from unstable, as the run's covered mail gives it (Debian
-- Developer's Reference 5.13), and so from a list of what the archive has.
use Rattle.std.specs.Prelude.{◌⊎◌, List, ◌++◌, map, filter, codes, Contains}
use Rattle.archive_plan.specs.declared.items.Item.{Item}
use Rattle.testing_rules_items.specs.Words.{Text}
use Rattle.testing_rules_model.specs.declared.suite.RowIn.{RowIn}
use Rattle.testing_rules_model.specs.declared.suite.SourceIn.{SourceIn}
use Rattle.testing_rules_model.specs.Covered.{Covered}
use Rattle.testing_rules_model.specs.Excuses.{has_current}
use Rattle.testing_rules_model.specs.Moves.{as_source}
use Rattle.testing_rules_model.specs.Suite.{Suite}
use Rattle.testing_rules_model.specs.Unstable.{unstable_rows, unstable_sources}

-- unstable's sources that have a current row: no other may move
abbrev pub built_sources : List Text → Covered → List SourceIn
built_sources archs s = map as_source (filter (has_current (unstable_rows archs s)) (unstable_sources s))

-- what the new testing has was in the old one, or is such a source at its version, or a row of unstable
pub record IsFromUnstable (archs : List Text) (s : Covered) (old new : Suite) : Type 0 where
  pub sources : (x : SourceIn) → Contains new.sources x → Contains old.sources x ⊎ Contains (built_sources archs s) x
  pub rows : (r : RowIn) → Contains new.rows r → Contains old.rows r ⊎ Contains (unstable_rows archs s) r

-- a package as an item of an archive, byte for byte
abbrev pub package_item : RowIn → Item
package_item r = record { architecture = r.binary.architecture; name = r.binary.name; version = r.binary.version }

-- sources and packages as items of an archive
abbrev pub items_of : List SourceIn → List RowIn → List Item
items_of sources rows = map (λ x. record { architecture = codes "source"; name = x.name; version = x.version }) sources ++ map package_item rows

-- what of unstable a run may bring into testing, and what testing has
abbrev pub told_items : List Text → Covered → List Item
told_items archs s = items_of (built_sources archs s) (unstable_rows archs s)

abbrev pub suite_items : Suite → List Item
suite_items t = items_of t.sources t.rows

-- each of these items is one of those
abbrev pub AreAmong : List Item → List Item → Type 0
AreAmong xs ys = (x : Item) → Contains xs x → Contains ys x
