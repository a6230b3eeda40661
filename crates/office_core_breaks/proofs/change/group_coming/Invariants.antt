use Rattle.std.proofs.Common.{◌≡◌, take}
use Rattle.testing_rules_model.specs.Boxed.{unboxed}
use Rattle.office_core_breaks.specs.Breaks.{moves, names_where}
use Rattle.office_core_breaks.proofs.change.group_coming.Given as goal

-- those so far
abbrev pub invariant-loop-item : goal.invariant-loop-item
invariant-loop-item l = l.group.items ≡ names_where (moves (unboxed l.sources) l.testing) (take l.item-index l.items)
