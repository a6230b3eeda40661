-- A plan of what to copy into a suite and what to remove: after it the suite has what testing has, and nothing else.
-- This office decides all of it.
use Rattle.std.specs.Prelude.{◌≡◌, ℕ, ◌≤◌, ◌<◌, ◌⊎◌, ◌↔◌, List, [], Bool, true, false, length, Contains, ⊤}
use Rattle.deb_version.specs.Order.{IsBelow}
use Rattle.archive_plan.specs.declared.items.Item.{Item}
use Rattle.archive_plan.specs.declared.items.Relation.TheVariants.{Key, Lower}
use Rattle.archive_plan.specs.declared.plan.Plan.{Plan}
use Rattle.archive_plan.specs.declared.plan.PlanFault.{PlanFault}
use Rattle.archive_plan.specs.declared.plan.PlanFault.TheVariants.{Lacks, Backward, TooMany, NoMemory}
use Rattle.archive_plan.specs.Items.{AreOfOneKey, picked_from, lacking}

-- what the suite has after a plan: what it had and what was copied, less what was removed
abbrev pub HasAfter : Plan → List Item → Item → Type 0
HasAfter plan suite x = (Contains suite x ⊎ Contains plan.copies.items x) × (Contains plan.removals.items x → ⊥)

-- what leaves the suite for good: testing has no version of it
abbrev pub leaving : List Item → List Item → List Item
leaving testing suite = picked_from Key false suite testing

-- the copies whose version is lower than the one that the suite has
abbrev pub lower : List Item → List Item → List Item
lower copies suite = picked_from Lower true copies suite

pub record IsPlan (testing suite from : List Item) (gone : ℕ) (back : Bool) (plan : Plan) : Type 0 where
  -- after it the suite has exactly what testing has
  pub ends : (x : Item) → HasAfter plan suite x ↔ Contains testing x
  -- nothing is copied that the suite has, and nothing is removed that it hasn't
  pub copies : (x : Item) → Contains plan.copies.items x → Contains suite x → ⊥
  pub removals : (x : Item) → Contains plan.removals.items x → Contains suite x
  -- each copy can be made
  pub there : (x : Item) → Contains plan.copies.items x → Contains from x
  -- nothing goes to a lower version, unless that is allowed
  pub back_only : back ≡ false → (x y : Item) → Contains plan.copies.items x → Contains suite y → AreOfOneKey x y → IsBelow x.version y.version → ⊥
  -- at most so many leave the suite
  pub brake : length (leaving testing suite) ≤ gone

-- the fault names the items that can't be copied
abbrev pub IsLack : List Item → List Item → PlanFault → Type 0
IsLack copies from (Lacks items) = (items.items ≡ lacking copies from) × (0 < length items.items)
IsLack copies from (Backward items) = ⊥
IsLack copies from (TooMany count) = ⊥
IsLack copies from NoMemory = ⊤

-- the fault names the items that would go to a lower version
abbrev pub IsStep : List Item → List Item → Bool → PlanFault → Type 0
IsStep copies suite back (Lacks items) = ⊥
IsStep copies suite back (Backward items) = (back ≡ false) × (items.items ≡ lower copies suite) × (0 < length items.items)
IsStep copies suite back (TooMany count) = ⊥
IsStep copies suite back NoMemory = ⊤

-- the fault says how many would leave, which is more than may
abbrev pub IsCrowd : ℕ → ℕ → PlanFault → Type 0
IsCrowd leave gone (Lacks items) = ⊥
IsCrowd leave gone (Backward items) = ⊥
IsCrowd leave gone (TooMany count) = (count ≡ leave) × (gone < count)
IsCrowd leave gone NoMemory = ⊤

-- the first fault that applies: what can't be copied, what would go to a lower version, how many would leave
abbrev pub IsFault : List Item → List Item → List Item → ℕ → Bool → PlanFault → Type 0
IsFault testing suite from gone back fault =
    IsLack (lacking testing suite) from fault
    ⊎ ((lacking (lacking testing suite) from ≡ []) × IsStep (lacking testing suite) suite back fault)
    ⊎ ((lacking (lacking testing suite) from ≡ []) × (back ≡ false → lower (lacking testing suite) suite ≡ []) × IsCrowd (length (leaving testing suite)) gone fault)

-- if memory didn't run out, there is no plan at all
abbrev pub RefusesAll : List Item → List Item → List Item → ℕ → Bool → PlanFault → Type 0
RefusesAll testing suite from gone back fault = (fault ≡ NoMemory → ⊥) → (plan : Plan) → IsPlan testing suite from gone back plan → ⊥
