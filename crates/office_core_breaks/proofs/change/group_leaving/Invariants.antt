use Rattle.std.proofs.Common.{◌≡◌, take}
use Rattle.office_core_breaks.specs.Breaks.{is_there, names_where}
use Rattle.office_core_breaks.proofs.change.group_leaving.Given as goal

-- those so far
abbrev pub invariant-loop-item : goal.invariant-loop-item
invariant-loop-item l = l.group.items ≡ names_where (is_there l.testing) (take l.item-index l.items)
