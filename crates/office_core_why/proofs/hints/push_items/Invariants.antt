use Rattle.std.proofs.Common.{◌≡◌, ◌++◌, string_bytes, take}
use Rattle.std.specs.List.{flat_map}
use Rattle.office_core_why.specs.Hints.{item_line}
use Rattle.office_core_why.proofs.hints.push_items.Given as goal

-- the text so far
abbrev pub invariant-loop-item : goal.invariant-loop-item
invariant-loop-item l = string_bytes l.text ≡ string_bytes l.fn.text ++ flat_map (item_line l.front l.facts.sources l.testing l.removes) (take l.item-index l.items)
