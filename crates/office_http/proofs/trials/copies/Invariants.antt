use Rattle.std.proofs.Common.{◌≡◌, take}
use Rattle.testing_rules_reports.specs.steps.LentLines.{lent_lines}
use Rattle.office_http.proofs.trials.copies.Given as goal

-- those so far
abbrev pub invariant-texts : goal.invariant-texts
invariant-texts l = l.all.items ≡ lent_lines (take l.text-index l.texts)
