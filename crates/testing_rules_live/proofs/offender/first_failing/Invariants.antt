use Rattle.std.proofs.Common.{◌≡◌, take}
use Rattle.std.specs.Option.{option_copied}
use Rattle.testing_rules_model.specs.Moves as moves
use Rattle.testing_rules_suites.specs.steps.JudgedRows.{answers}
use Rattle.testing_rules_live.proofs.offender.first_failing.Given as goal

-- the first so far
abbrev pub invariant-loop-judged : goal.invariant-loop-judged
invariant-loop-judged l =
    option_copied l.first ≡ moves.first_failing l.arch l.group (answers l.before) (answers (take l.judged-index l.after))
