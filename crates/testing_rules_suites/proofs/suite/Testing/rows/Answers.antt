use Rattle.std.specs.List.Sorted.{IsStrictlySortedBy}
use Rattle.testing_rules_suites.proofs.suite.Testing.rows.Goals as goal

pub returns-in-None-clause-ordered : goal.returns-in-None-clause-ordered
unfolding IsStrictlySortedBy
returns-in-None-clause-ordered c = tt
