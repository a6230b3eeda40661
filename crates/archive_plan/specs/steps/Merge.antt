-- Where an item belongs in a list in order.
use Rattle.std.specs.Prelude.{◌≡◌, ℕ, ◌≤◌, ◌<◌, List, length, slice_index_or}
use Rattle.std.specs.declared.cmp.Ordering.TheVariants.{Less}
use Rattle.archive_plan.specs.declared.items.Item.{Item}
use Rattle.archive_plan.specs.Items.{key_cmp}

-- each item before a place has a lower key than this item
pub record ArePassed (items : List Item) (place : ℕ) (x : Item) : Type 0 where
  pub within : place ≤ length items
  pub below : (k : ℕ) (d : Item) → k < place → key_cmp (slice_index_or items k d) x ≡ Less

-- .. and the item at the place, if there is one, hasn't
pub record IsPlaceFor (items : List Item) (place : ℕ) (x : Item) : Type 0 where
  pub passed : ArePassed items place x
  pub here : (d : Item) → place < length items → key_cmp (slice_index_or items place d) x ≡ Less → ⊥
