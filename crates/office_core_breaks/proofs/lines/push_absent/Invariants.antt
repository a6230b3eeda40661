use Rattle.std.proofs.Common.{◌≡◌, ◌++◌, filter, not, string_bytes, take}
use Rattle.std.specs.List.{flat_map}
use Rattle.office_core_breaks.specs.Breaks.{is_there}
use Rattle.office_core_breaks.specs.Texts.{item_line}
use Rattle.office_core_breaks.proofs.lines.push_absent.Given as goal

-- those so far
abbrev pub invariant-loop-item : goal.invariant-loop-item
invariant-loop-item l = string_bytes l.text ≡ string_bytes l.fn.text ++ flat_map item_line (filter (λ i. not (is_there l.testing i)) (take l.item-index l.items))
