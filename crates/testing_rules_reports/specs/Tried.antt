-- The text that says what hints would change.
use Rattle.std.specs.Prelude.{ℕ, ◌+◌, List, [], ◌∷◌, ◌++◌, codes, decimal}
use Rattle.std.specs.Str.Lines.{lines}
use Rattle.jiff_core.specs.declared.civil.date.Date.{Date}
use Rattle.jiff.specs.Words.{date_text}
use Rattle.testing_rules_reports.specs.Changes.{changes, excuse_lines}
use Rattle.testing_rules_reports.specs.declared.hint_lines.Decided.{Decided}
use Rattle.testing_rules_reports.specs.declared.hint_lines.TrialReport.{TrialReport}

-- the line on a sender's hint with this number, tried for a run of a date
abbrev pub try_line : ℕ → Date → List ℕ → ℕ → List ℕ → List ℕ
try_line run date sender number hint =
    codes "try " ++ decimal run ++ 32 ∷ date_text date ++ 32 ∷ sender ++ 32 ∷ decimal number ++ 32 ∷ hint ++ 10 ∷ []

-- a line for each hint, numbered from here on
abbrev pub try_lines : ℕ → Date → List ℕ → ℕ → List (List ℕ) → List ℕ
try_lines run date sender number [] = []
try_lines run date sender number (hint ∷ rest) = try_line run date sender number hint ++ try_lines run date sender (number + 1) rest

-- how the decisions of one run differ from another's: for each report the lines only in the first, then those only in
-- the second
abbrev pub changes_text : Decided → Decided → List ℕ
changes_text first second =
    changes (codes "-excuse ") (codes "+excuse ") (excuse_lines first.excuses) (excuse_lines second.excuses)
    ++ changes (codes "-update ") (codes "+update ") (lines first.updates) (lines second.updates)
    ++ changes (codes "-testing ") (codes "+testing ") (lines first.testing) (lines second.testing)

-- what a sender's hints would change
abbrev pub tried_text : List ℕ → List (List ℕ) → TrialReport → List ℕ
tried_text sender hints tried = try_lines tried.run tried.date sender tried.first hints ++ changes_text tried.without tried.with
