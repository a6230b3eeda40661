use Rattle.std.proofs.Common.{◌≡◌, take}
use Rattle.office_core_outcome.specs.WhyRefused.{group_left}
use Rattle.office_core_outcome.proofs.refused_items.group_left.Given as goal

-- those so far
abbrev pub invariant-loop-item : goal.invariant-loop-item
invariant-loop-item l = l.group.items ≡ group_left l.testing (take l.item-index l.items)
