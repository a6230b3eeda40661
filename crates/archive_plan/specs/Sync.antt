-- What is due to the office, so that its unstable is what an archive's index has. This office decides all of it.
use Rattle.std.specs.Prelude.{◌≡◌, ℕ, ◌≤◌, ◌⊎◌, ◌↔◌, List, ◌++◌, Bool, true, false, not, filter, length, Contains, codes}
use Rattle.std.specs.Str.{bytes_eq}
use Rattle.deb_version.specs.Order.{IsAbove}
use Rattle.archive_plan.specs.declared.items.Item.{Item}
use Rattle.archive_plan.specs.declared.items.Relation.TheVariants.{Key, AtMost}
use Rattle.archive_plan.specs.declared.plan.PlanFault.{PlanFault}
use Rattle.archive_plan.specs.declared.plan.PlanFault.TheVariants.{NoMemory}
use Rattle.archive_plan.specs.declared.sync.Due.{Due}
use Rattle.archive_plan.specs.Items.{AreOfOneKey, AreInOrder, picked_from, lacking}

-- the item is a binary package: its architecture isn't `source`
abbrev pub is_package : Item → Bool
is_package x = not (bytes_eq x.architecture (codes "source"))

-- the item's version is above that of each item of its key
abbrev pub IsAboveAll : List Item → Item → Type 0
IsAboveAll ys x = (y : Item) → Contains ys y → AreOfOneKey x y → IsAbove x.version y.version

-- unstable has it: of what was told of its key and is above all that was dropped, nothing is above it
abbrev pub IsUnstable : List Item → List Item → Item → Type 0
IsUnstable told dropped x =
    Contains told x × IsAboveAll dropped x
    × ((y : Item) → Contains told y → AreOfOneKey x y → IsAboveAll dropped y → IsAbove y.version x.version → ⊥)

-- unstable has it after the mail of what is due
abbrev pub IsAfter : List Item → List Item → Due → Item → Type 0
IsAfter told dropped due x = IsUnstable (told ++ due.tells.items) (dropped ++ due.drops.items) x

-- one of these has its key and a version that isn't below
abbrev pub IsKeptOut : List Item → Item → Type 0
IsKeptOut ys x = (y : Item) × Contains ys y × AreOfOneKey x y × (IsAbove x.version y.version → ⊥)

-- what was told and is above all that was dropped
abbrev pub living : List Item → List Item → List Item
living told dropped = picked_from AtMost false told dropped

-- the items of the index that unstable hasn't and that are above all that was told and dropped
abbrev pub tellable : List Item → List Item → List Item → List Item
tellable told index dropped = picked_from AtMost false (picked_from AtMost false (lacking index (living told dropped)) told) dropped

-- the packages that unstable loses: the index hasn't them, and nothing of their key is told
abbrev pub leaving_unstable : List Item → List Item → List Item → List Item
leaving_unstable told index dropped =
    picked_from Key false (filter is_package (lacking (living told dropped) index)) (tellable told index dropped)

pub record IsSync (told index dropped : List Item) (gone : ℕ) (due : Due) : Type 0 where
  -- after the mail each package that unstable has is in the index, at that version
  pub inside : (x : Item) → IsAfter told dropped due x → is_package x ≡ true → Contains index x
  -- after it unstable has each item of the index that isn't left
  pub whole : (x : Item) → Contains index x → IsAfter told dropped due x ⊎ Contains due.left.items x
  -- what is left is in the index and not in unstable, and can't be told: it isn't above what was told or dropped
  pub left : (x : Item) → Contains due.left.items x → Contains index x × (IsUnstable told dropped x → ⊥) × IsKeptOut (told ++ dropped) x
  -- nothing is told that the index hasn't, or that can't be told
  pub tells : (x : Item) → Contains due.tells.items x → Contains index x × IsAboveAll (told ++ dropped) x
  -- nothing is dropped but packages that unstable has and the index hasn't, where nothing of their key is told
  pub drops : (x : Item) → Contains due.drops.items x
      → IsUnstable told dropped x × (is_package x ≡ true) × (Contains index x → ⊥) × ((y : Item) → Contains due.tells.items y → AreOfOneKey x y → ⊥)
  -- each list is in the order of the keys, and each key stands once
  pub order : AreInOrder due.tells.items × AreInOrder due.drops.items × AreInOrder due.left.items
  -- unstable loses at most so many packages
  pub brake : length (leaving_unstable told index dropped) ≤ gone

-- if memory didn't run out, nothing that is due passes the brake
abbrev pub RefusesDue : List Item → List Item → List Item → ℕ → PlanFault → Type 0
RefusesDue told index dropped gone fault = (fault ≡ NoMemory → ⊥) → (due : Due) → IsSync told index dropped gone due → ⊥

-- unstable has what it is to have after the mail of what is due, and of each key the greatest drop is known
pub record IsTold (told dropped : List Item) (due : Due) (told2 dropped2 : List Item) : Type 0 where
  pub rows : (x : Item) → Contains told2 x ↔ IsAfter told dropped due x
  pub drops : (x : Item) → Contains (dropped ++ due.drops.items) x → IsKeptOut dropped2 x
