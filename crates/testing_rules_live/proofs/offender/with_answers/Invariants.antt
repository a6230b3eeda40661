use Rattle.std.proofs.Common.{◌≡◌, ◌++◌, drop}
use Rattle.testing_rules_model.specs.Moves as moves
use Rattle.testing_rules_suites.specs.steps.JudgedRows.{answers}
use Rattle.testing_rules_model.specs.JudgedRows.{lent}
use Rattle.testing_rules_live.proofs.offender.with_answers.Given as goal

-- those so far and those of the rest are all
abbrev pub invariant-loop-k : goal.invariant-loop-k
invariant-loop-k l =
    answers l.judged.items ++ moves.with_answers (lent (drop l.k l.rows)) (drop l.k l.marks) ≡ moves.with_answers (lent l.rows) l.marks
