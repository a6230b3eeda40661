use Rattle.testing_rules_model.specs.JudgedRows.{lent}
use Rattle.testing_rules_refusals.specs.steps.Shown.{AreOnlyAt}
use Rattle.testing_rules_refusals.proofs.shown.is_only.Given as goal

abbrev pub invariant-loop-place : goal.invariant-loop-place
invariant-loop-place l = AreOnlyAt (lent l.rows) l.name l.only l.place
