use Rattle.std.proofs.Common.{◌≡◌, ◌++◌, take, filter}
use Rattle.testing_rules_suites.specs.steps.Changes.{stands_of}
use Rattle.testing_rules_live.proofs.change.push_standing.Given as goal

-- those so far
abbrev pub invariant-loop-place : goal.invariant-loop-place
invariant-loop-place l = l.leaving.items ≡ l.fn.leaving.items ++ filter (stands_of l.pool l.stands l.name) (take l.place-index l.places)
