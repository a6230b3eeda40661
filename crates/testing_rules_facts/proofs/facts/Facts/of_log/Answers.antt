use Rattle.std.proofs.Common.{arith, ap, length}
use Rattle.std.specs.List.Sorted.{IsStrictlySortedBy}
use Rattle.testing_rules_facts.proofs.facts.Facts.of_log.Goals as goal

pub invariant_of-result : goal.invariant_of-result
unfolding IsStrictlySortedBy
invariant_of-result c = (
  rw (c.new.ensures.items, c.new-3.ensures, c.new-4.ensures.items, c.new-5.ensures.items) (record { by_source = tt; by_pair = tt; drops_by_pair = tt; by_number = tt }),
  omega (arith, c.requires.room, ap length c.new-2.ensures.items),
  rw c.new-2.ensures.items tt,
  rw c.new-6.ensures.items tt,
  rw c.new-7.ensures.items tt,
)
