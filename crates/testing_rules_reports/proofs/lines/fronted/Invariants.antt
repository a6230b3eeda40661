use Rattle.std.proofs.Common.{◌≡◌, ◌++◌, [], drop}
use Rattle.std.specs.Str.{IsUtf8}
use Rattle.testing_rules_reports.specs.Changes.{fronted}
use Rattle.testing_rules_reports.specs.steps.LentLines.{lent_lines}
use Rattle.testing_rules_reports.proofs.lines.fronted.Given as goal

-- those so far, and what is left
abbrev pub invariant-lines : goal.invariant-lines
invariant-lines l = record {
  text : IsUtf8 l.front;
  same : l.all.items ++ fronted l.front (lent_lines (drop l.line-index l.found)) ≡ fronted [] (lent_lines l.found);
}
