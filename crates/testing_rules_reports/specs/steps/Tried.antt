-- Steps beside `specs/Tried.antt`.
use Rattle.std.specs.Prelude.{Bool, not, length, ◌==◌}
use Rattle.testing_rules_reports.specs.declared.hint_lines.TrialReport.{TrialReport}
use Rattle.testing_rules_reports.specs.Tried.{changes_text}

-- whether the hints would change anything
abbrev pub has_changes : TrialReport → Bool
has_changes tried = not (length (changes_text tried.without tried.with) == 0)
