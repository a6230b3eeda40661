use Rattle.std.proofs.Common.{◌≡◌, take}
use Rattle.testing_rules_suites.proofs.suite.copy_sources.Given as goal

-- those so far
abbrev pub invariant-loop-source : goal.invariant-loop-source
invariant-loop-source l = l.copies.items ≡ take l.source-index l.sources
