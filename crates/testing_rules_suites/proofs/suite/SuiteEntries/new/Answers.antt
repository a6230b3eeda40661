use Rattle.std.specs.List.Sorted.{IsStrictlySortedBy}
use Rattle.testing_rules_suites.proofs.suite.SuiteEntries.new.Goals as goal

pub invariant_of-result : goal.invariant_of-result
unfolding IsStrictlySortedBy
invariant_of-result c = rw (c.new.ensures.items, c.new-2.ensures.items) (record { by_name = tt; by_key = tt })
