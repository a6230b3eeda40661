use Rattle.std.proofs.Common.{◌≡◌, take, false}
use Rattle.testing_rules_model.specs.Moves.{was_installable}
use Rattle.testing_rules_suites.specs.steps.JudgedRows.{answers}
use Rattle.testing_rules_model.specs.JudgedRows.{row_of}
use Rattle.testing_rules_live.proofs.offender.was_installable.Given as goal

-- none so far
abbrev pub invariant-loop-judged : goal.invariant-loop-judged
invariant-loop-judged l = was_installable (answers (take l.judged-index l.before)) (row_of l.row) ≡ false
