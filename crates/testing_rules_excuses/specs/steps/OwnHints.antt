-- What hints ask for one source alone.
use Rattle.std.specs.Prelude.{Bool, true, false, List, [], ◌∷◌, ◌++◌, Option, map, filter, option_map}
use Rattle.std.specs.List.{flat_map, list_any}
use Rattle.std.specs.Str.{bytes_eq}
use Rattle.testing_rules_items.specs.declared.item.Hint.{Hint}
use Rattle.testing_rules_items.specs.declared.item.Hint.TheVariants.{Block, BlockAll, Unblock, Easy, AgeDays, Remove}
use Rattle.testing_rules_items.specs.declared.item.HintItem.{HintItem}
use Rattle.testing_rules_model.specs.declared.facts.HintIn.{HintIn}
use Rattle.testing_rules_excuses.specs.declared.own_hints.Wish.{Wish}
use Rattle.testing_rules_excuses.specs.declared.own_hints.Wish.TheVariants.{LetIn, Days, Leave}
use Rattle.testing_rules_items.specs.Words.{Text, only_if}

-- a hint that asks this for the items
abbrev pub wished : Wish → List HintItem → Hint
wished LetIn items = Unblock items
wished (Days n) items = AgeDays n items
wished Leave items = Remove items

-- the part of a hint for one of its items; for a block, one of its names
abbrev pub item_part : HintIn → Wish → HintItem → HintIn
item_part h wish i = record { hint = wished wish (i ∷ []); sender = h.sender; number = h.number }

abbrev pub named_part : HintIn → Text → HintIn
named_part h name = record { hint = Block (name ∷ []); sender = h.sender; number = h.number }

-- the parts for this source
abbrev pub item_parts : Text → HintIn → Wish → List HintItem → List HintIn
item_parts q h wish items = map (item_part h wish) (filter (λ i. bytes_eq q i.name) items)

abbrev pub named_parts : Text → HintIn → List Text → List HintIn
named_parts q h names = map (named_part h) (filter (bytes_eq q) names)

-- the parts of a hint that name the source. A group of an easy hint keeps no source out
abbrev pub parts_by : Text → HintIn → Hint → List HintIn
parts_by q h (Block names) = named_parts q h names
parts_by q h BlockAll = []
parts_by q h (Unblock items) = item_parts q h LetIn items
parts_by q h (Easy items) = []
parts_by q h (AgeDays n items) = item_parts q h (Days n) items
parts_by q h (Remove items) = item_parts q h Leave items

abbrev pub parts_of : Text → HintIn → List HintIn
parts_of q h = parts_by q h h.hint

-- the hint keeps all sources out
abbrev pub is_for_all : Hint → Bool
is_for_all (Block names) = false
is_for_all BlockAll = true
is_for_all (Unblock items) = false
is_for_all (Easy items) = false
is_for_all (AgeDays n items) = false
is_for_all (Remove items) = false

-- a hint that does so, of any message: a source's hints begin with it if some hint does
abbrev pub for_all : HintIn
for_all = record { hint = BlockAll; sender = 0; number = 0 }

abbrev pub started : Bool → List HintIn
started all_out = only_if all_out for_all

-- the hints for the source: first that all are kept out, then those that name it
abbrev pub own_hints : Text → List HintIn → List HintIn
own_hints q hints = started (list_any (λ h. is_for_all h.hint) hints) ++ flat_map (parts_of q) hints

-- a group with more items
abbrev pub joined_with : {A : Type 0} → List A → Option (List A) → Option (List A)
joined_with more slot = option_map (λ items. items ++ more) slot
