use Rattle.testing_rules_suites.specs.steps.JudgedRows.{answers}
use Rattle.testing_rules_refusals.proofs.Failings.{NoneFailing}
use Rattle.testing_rules_refusals.proofs.failures.place_of.Given as goal

-- none so far
abbrev pub invariant-loop-place : goal.invariant-loop-place
invariant-loop-place l = NoneFailing l.arch l.group (answers l.before) (answers l.after) l.name l.place
