-- Items of a suite, the order of their keys, and what a list has of an item.
use Rattle.std.specs.Prelude.{◌≡◌, List, Bool, true, false, ◌&&◌, not, filter, if◌then◌else◌}
use Rattle.std.specs.List.{AllPairs, list_any}
use Rattle.std.specs.Str.{bytes_eq}
use Rattle.std.specs.declared.cmp.Ordering.{Ordering}
use Rattle.std.specs.declared.cmp.Ordering.TheVariants.{Less}
use Rattle.std.specs.Ordering.{ordering_then, nat_cmp, is_eq, is_lt, is_gt}
use Rattle.std.specs.Cmp.Lexicographic.{slice_cmp}
use Rattle.deb_version.specs.Order.{version_cmp}
use Rattle.archive_plan.specs.declared.items.Item.{Item}
use Rattle.archive_plan.specs.declared.items.Relation.{Relation}
use Rattle.archive_plan.specs.declared.items.Relation.TheVariants.{Key, Whole, Lower, AtMost}

-- the items have one architecture and one name, or are one source
abbrev pub AreOfOneKey : Item → Item → Type 0
AreOfOneKey x y = (x.architecture ≡ y.architecture) × (x.name ≡ y.name)

-- the order of two items by architecture, and then by name, byte for byte; this office decides it
abbrev pub key_cmp : Item → Item → Ordering
key_cmp x y = ordering_then (slice_cmp nat_cmp x.architecture y.architecture) (slice_cmp nat_cmp x.name y.name)

-- the items are in the order of their keys, and each key stands once
abbrev pub AreInOrder : List Item → Type 0
AreInOrder xs = AllPairs (λ x y. key_cmp x y ≡ Less) xs

-- whether two items of one key stand so to each other; versions by Debian Policy 5.6.12
abbrev pub fits : Relation → Item → Item → Bool
fits Key x y = true
fits Whole x y = bytes_eq x.version y.version
fits Lower x y = is_lt (version_cmp x.version y.version)
fits AtMost x y = not (is_gt (version_cmp x.version y.version))

-- whether the items have one key, and stand so to each other
abbrev pub relates : Relation → Item → Item → Bool
relates relation x y = is_eq (key_cmp x y) && fits relation x y

-- whether an item stands so to one of a list
unfoldable pub meets : Relation → List Item → Item → Bool
meets relation ys x = list_any (relates relation x) ys

-- the items of a list that stand so to one of another list, or those that don't
abbrev pub picked_from : Relation → Bool → List Item → List Item → List Item
picked_from relation wanted xs ys = filter (λ x. if meets relation ys x then wanted else not wanted) xs

-- the items of a list that another list hasn't, byte for byte
abbrev pub lacking : List Item → List Item → List Item
lacking xs ys = picked_from Whole false xs ys
