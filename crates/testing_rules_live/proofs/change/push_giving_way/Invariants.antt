use Rattle.std.proofs.Common.{◌≡◌, ◌++◌, take, filter}
use Rattle.testing_rules_suites.specs.steps.Changes.{stands_for}
use Rattle.testing_rules_model.specs.JudgedRows.{row_of}
use Rattle.testing_rules_live.proofs.change.push_giving_way.Given as goal

-- those so far
abbrev pub invariant-loop-place : goal.invariant-loop-place
invariant-loop-place l = l.leaving.items ≡ l.fn.leaving.items ++ filter (stands_for l.pool l.stands (row_of l.other)) (take l.place-index l.places)
