-- Borrowed items of a hint, borrowed excuses, and sources as they moved.
use Rattle.std.specs.Prelude.{List, map}
use Rattle.std.specs.Borrow.{Bor}
use Rattle.testing_rules_items.specs.declared.item.HintItem.{HintItem}
use Rattle.testing_rules_model.specs.declared.excuse.Excuse.{Excuse}

-- the borrowed items
abbrev pub items_of : List (Bor HintItem) → List HintItem
items_of items = map (λ i. i.now) items

-- the borrowed excuses
abbrev pub lent_excuses : List (Bor Excuse) → List Excuse
lent_excuses excuses = map (λ e. e.now) excuses
