use Rattle.std.proofs.Common.{◌≡◌}
use Rattle.testing_rules_facts.proofs.shared_clauses.LastClauses.share_all.Given as goal

abbrev pub invariant-loop-place : goal.invariant-loop-place
invariant-loop-place l = l.binaries ≡ l.fn.binaries
