use Rattle.std.proofs.Common.{◌≡◌, take, map, filter}
use Rattle.testing_rules_model.specs.JudgedRows.{lent}
use Rattle.testing_rules_suites.specs.steps.JudgedRows.{answers}
use Rattle.office_core_breaks.specs.steps.Worked.{fails_by}
use Rattle.office_core_breaks.proofs.broken.failing.Given as goal

-- those so far
abbrev pub invariant-loop-judged : goal.invariant-loop-judged
invariant-loop-judged l = lent l.rows.items ≡ map (λ j. j.row) (filter (fails_by l.arch l.group l.own.keys l.all.keys) (answers (take l.judged-index l.after)))
