-- Unstable behind mail of what is due to an office in which no package bears a mark.
use Rattle.std.specs.Prelude.{◌≡◌, true, List, map, Contains}
use Rattle.archive_plan.specs.declared.items.Item.{Item}
use Rattle.archive_plan.specs.declared.sync.Due.{Due}
use Rattle.archive_plan.specs.Sync.{is_package}
use Rattle.testing_rules_items.specs.Words.{Text}
use Rattle.testing_rules_model.specs.declared.facts.BuildIn.{BuildIn}
use Rattle.testing_rules_model.specs.declared.facts.DropIn.{DropIn}
use Rattle.testing_rules_model.specs.Covered.{Covered, builds_in, drops_in}
use Rattle.testing_rules_model.specs.Unstable.{unstable_rows}
use Rattle.office_core_laws.specs.Checked.{HasPackages, without_marks}
use Rattle.office_core_laws.specs.FromUnstable.{AreAmong}

-- a build's package, and up to which version a drop drops one
abbrev pub build_item : BuildIn → Item
build_item b = record { architecture = b.binary.architecture; name = b.binary.name; version = b.binary.version }

abbrev pub drop_item : DropIn → Item
drop_item d = record { architecture = d.arch; name = d.name; version = d.version }

-- what these messages tell of packages, and what they drop
abbrev pub built_items : Covered → List Item
built_items s = map build_item (builds_in s)

abbrev pub dropped_items : Covered → List Item
dropped_items s = map drop_item (drops_in s)

-- the list has each package of unstable as these messages give it; they say each package and each drop that is listed
pub record IsToldBy (archs : List Text) (s : Covered) (told dropped : List Item) : Type 0 where
  pub rows : HasPackages without_marks told (unstable_rows archs s)
  pub built : (x : Item) → Contains told x → is_package x ≡ true → Contains (built_items s) x
  pub drops : AreAmong dropped (dropped_items s)

-- these messages build just the packages that are due to be told, and drop all that is due to be dropped
pub record SaysDue (sent : Covered) (due : Due) : Type 0 where
  pub builds : AreAmong (built_items sent) due.tells.items
  pub tells : (x : Item) → Contains due.tells.items x → is_package x ≡ true → Contains (built_items sent) x
  pub drops : AreAmong due.drops.items (dropped_items sent)
