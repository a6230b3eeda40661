use Rattle.std.proofs.Common.{◌≡◌, ◌++◌, take, filter}
use Rattle.testing_rules_suites.specs.steps.Changes.{comes_at}
use Rattle.testing_rules_live.proofs.change.push_coming.Given as goal

-- those so far
abbrev pub invariant-loop-place : goal.invariant-loop-place
invariant-loop-place l = l.coming.items ≡ l.fn.coming.items ++ filter (comes_at l.pool l.first l.upload) (take l.place-index l.places)
