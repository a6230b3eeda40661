-- The line on a finished run: its number, its date, and how many lines of each kind its two reports have.
use Rattle.std.specs.Prelude.{ℕ, zero, suc, Bool, not, ◌&&◌, List, [], ◌∷◌, ◌++◌, codes, decimal, length, drop, ◌==◌, nat_eq, bytes_eq, slice_get, unwrap_or}
use Rattle.std.specs.List.{filter, slice_split, starts_with}
use Rattle.std.specs.Str.Lines.{lines}
use Rattle.office_mail.specs.Kept.{Kept}
use Rattle.office_mail.specs.Lists.{Lists}
use Rattle.office_core_facts.specs.OfficeState.{OfficeState}
use Rattle.office_core_facts.specs.Outcome.{reports_of}
use Rattle.office_core_queries.specs.declared.run_lines.LineKind.{LineKind}
use Rattle.office_core_queries.specs.declared.run_lines.LineKind.TheVariants.{Excuse, Candidate, Accept, Easy, Remove, Wait}

-- the word at a place of a line, counted from 0; each space ends a word; empty if there is none
abbrev pub word_at : ℕ → List ℕ → List ℕ
word_at place line = unwrap_or (slice_get (slice_split (λ b. b == 32) line) place) []

-- whether the word at a place of a line is this one
abbrev pub has_word : ℕ → List ℕ → List ℕ → Bool
has_word place word line = bytes_eq (word_at place line) word

-- whether a line is the first of an excuse, the last of a candidate's, or reports a single move, a moved group, a
-- removal, or a waiting candidate
abbrev pub is_line : LineKind → List ℕ → Bool
is_line Excuse line = not (starts_with nat_eq line (codes " "))
is_line Candidate line = bytes_eq line (codes " candidate")
is_line Accept line = has_word 0 (codes "accept") line
is_line Easy line = has_word 0 (codes "easy") line && has_word 2 (codes "accept") line
is_line Remove line = has_word 0 (codes "remove") line && has_word 2 (codes "accept") line
is_line Wait line = has_word 0 (codes "wait") line

-- how many lines of a report after its heading are of a kind
abbrev pub count_of : LineKind → List ℕ → ℕ
count_of kind report = length (filter (is_line kind) (drop 1 (lines report)))

-- the date of a report: the third word of its heading
abbrev pub date_of : List ℕ → List ℕ
date_of report = word_at 2 (unwrap_or (slice_get (lines report) 0) [])

-- what a run's two reports count, in words
abbrev pub excuse_counts : List ℕ → List ℕ
excuse_counts excuses = codes " excuses " ++ decimal (count_of Excuse excuses) ++ codes " candidates " ++ decimal (count_of Candidate excuses)

abbrev pub update_counts : List ℕ → List ℕ
update_counts update =
    codes " accept " ++ decimal (count_of Accept update) ++ codes " easy " ++ decimal (count_of Easy update)
    ++ codes " remove " ++ decimal (count_of Remove update) ++ codes " wait " ++ decimal (count_of Wait update)

-- the line on a run, by its two reports
abbrev pub run_line : ℕ → List ℕ → List ℕ → List ℕ
run_line run excuses update = codes "run " ++ decimal run ++ 32 ∷ date_of excuses ++ excuse_counts excuses ++ update_counts update ++ 10 ∷ []

-- the line on run k, and those on runs 1 to k
abbrev pub line_on : Lists → Kept → ℕ → List ℕ
line_on setup kept k = run_line k (reports_of setup kept k).excuses (reports_of setup kept k).updates

abbrev pub lines_to : Lists → Kept → ℕ → List ℕ
lines_to setup kept zero = []
lines_to setup kept (suc k) = lines_to setup kept k ++ line_on setup kept (suc k)

-- a line on each finished run
abbrev pub runs_text : OfficeState → List ℕ
runs_text s = lines_to s.setup s.kept s.finished
