use Rattle.testing_rules_model.specs.JudgedRows.{lent}
use Rattle.testing_rules_refusals.proofs.LineProviders.{IsLineIndexTo}
use Rattle.testing_rules_refusals.proofs.providers.noted_lines.Given as goal

-- what is noted so far
abbrev pub invariant-loop-before : goal.invariant-loop-before
invariant-loop-before l = IsLineIndexTo (lent l.rows) l.steps l.noted l.before
