use Rattle.std.proofs.Common.{◌≡◌, take}
use Rattle.testing_rules_model.specs.Boxed.{unboxed}
use Rattle.testing_rules_facts.proofs.copies.copy_boxed.Given as goal

-- those so far
abbrev pub invariant-loop-value : goal.invariant-loop-value
invariant-loop-value g l = unboxed l.copies.items ≡ unboxed (take l.value-index l.values)
