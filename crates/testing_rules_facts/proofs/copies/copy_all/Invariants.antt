use Rattle.std.proofs.Common.{◌≡◌, take}
use Rattle.testing_rules_facts.proofs.copies.copy_all.Given as goal

-- those so far
abbrev pub invariant-loop-value : goal.invariant-loop-value
invariant-loop-value g l = l.copies.items ≡ take l.value-index l.values
