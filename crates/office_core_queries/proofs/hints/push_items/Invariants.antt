use Rattle.std.proofs.Common.{◌≡◌, ◌++◌, string_bytes, take}
use Rattle.std.specs.List.{flat_map}
use Rattle.office_core_queries.specs.Listing.{item_words}
use Rattle.office_core_queries.proofs.hints.push_items.Given as goal

-- the text so far
abbrev pub invariant-loop-item : goal.invariant-loop-item
invariant-loop-item l = string_bytes l.text ≡ string_bytes l.fn.text ++ flat_map item_words (take l.item-index l.items)
