-- Lists of what a suite has, as dak's control-suite reads them, the lines of a plan, and those of what is due.
use Rattle.std.specs.Prelude.{◌≡◌, ℕ, List, [], ◌∷◌, ◌++◌, Bool, Option, Some, None, codes, decimal, IsPermutation}
use Rattle.std.specs.List.{flat_map}
use Rattle.archive_plan.specs.declared.items.Item.{Item}
use Rattle.archive_plan.specs.declared.plan.Plan.{Plan}
use Rattle.archive_plan.specs.declared.plan.PlanFault.{PlanFault}
use Rattle.archive_plan.specs.declared.plan.PlanFault.TheVariants.{Lacks, Backward, TooMany, NoMemory}
use Rattle.archive_plan.specs.Items.{AreInOrder}
use Rattle.archive_plan.specs.declared.sync.Due.{Due}
use Rattle.archive_plan.specs.Plan.{IsPlan}
use Rattle.archive_plan.specs.Sync.{IsSync}
use Rattle.archive_lists.specs.declared.lists.Listed.{Listed}

abbrev pub Text : Type 0
Text = List ℕ

-- the line of an item: its name, its version and its architecture, with a space between them
abbrev pub line_of : Item → Text
line_of x = x.name ++ (32 ∷ (x.version ++ (32 ∷ x.architecture)))

-- a text with a line for each item, in this order, each ended by a line feed
abbrev pub listed : List Item → Text
listed items = flat_map (λ x. line_of x ++ (10 ∷ [])) items

-- the text has a line for each of the items, in any order, and the items are in the order of their keys
pub record IsListOf (text : Text) (items : List Item) : Type 0 where
  pub lines : (all : List Item) × (listed all ≡ text) × IsPermutation all items
  pub order : AreInOrder items

-- the items of three texts
pub record AreLists (first second third : Text) (listed : Listed) : Type 0 where
  pub one : IsListOf first listed.first.items
  pub two : IsListOf second listed.second.items
  pub three : IsListOf third listed.third.items

-- a plan of what three texts list
abbrev pub IsPlanOfLists : Text → Text → Text → ℕ → Bool → Plan → Type 0
IsPlanOfLists testing suite from gone back plan =
    (t : List Item) × (s : List Item) × (f : List Item)
    × IsListOf testing t × IsListOf suite s × IsListOf from f × IsPlan t s f gone back plan

-- what is due by what three texts list
abbrev pub IsSyncOfLists : Text → Text → Text → ℕ → Due → Type 0
IsSyncOfLists told index dropped gone due =
    (t : List Item) × (i : List Item) × (d : List Item)
    × IsListOf told t × IsListOf index i × IsListOf dropped d × IsSync t i d gone due

-- the line of an item after a word
abbrev pub line_with : Text → Item → Text
line_with word x = word ++ 32 ∷ x.name ++ 32 ∷ x.version ++ 32 ∷ x.architecture ++ 10 ∷ []

-- such a line for each item
abbrev pub lines_with : Text → List Item → Text
lines_with word items = flat_map (line_with word) items

-- the lines of a plan, the copies first
abbrev pub plan_text : Plan → Text
plan_text plan = lines_with (codes "copy") plan.copies.items ++ lines_with (codes "remove") plan.removals.items

-- the lines of what is due: what is told, what is dropped, and what is left
abbrev pub due_text : Due → Text
due_text due =
    lines_with (codes "tell") due.tells.items
    ++ (lines_with (codes "drop") due.drops.items ++ lines_with (codes "left") due.left.items)

-- the lines of a fault
abbrev pub fault_text : PlanFault → Option Text
fault_text (Lacks items) = Some (lines_with (codes "lacks") items.items)
fault_text (Backward items) = Some (lines_with (codes "lower") items.items)
fault_text (TooMany count) = Some (codes "leaving " ++ (decimal count ++ (10 ∷ [])))
fault_text NoMemory = None
