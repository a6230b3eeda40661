use Rattle.std.proofs.Common.{◌≡◌, ◌+◌, ◌++◌, drop, string_bytes}
use Rattle.testing_rules_reports.specs.Tried.{try_lines}
use Rattle.testing_rules_reports.proofs.hint_lines.push_tries.Given as goal

-- the text so far, and what is left
abbrev pub invariant-hints : goal.invariant-hints
invariant-hints l = record {
  number : l.number ≡ l.tried.first + l.hint-index;
  same : string_bytes l.text ++ try_lines l.tried.run l.tried.date l.sender l.number (drop l.hint-index l.hints) ≡ string_bytes l.fn.text ++ try_lines l.tried.run l.tried.date l.sender l.tried.first l.hints;
}
