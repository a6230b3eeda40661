-- The texts of the reports, as lines that each end with a line feed. This office decides their form; their content is
-- that of Debian's excuses and the output of a run (Debian Developer's Reference 5.13.2).
use Rattle.std.specs.Prelude.{ℕ, if◌then◌else◌, List, [], ◌∷◌, ◌++◌, codes, decimal}
use Rattle.std.specs.List.{flat_map}
use Rattle.jiff_core.specs.declared.civil.date.Date.{Date}
use Rattle.jiff.specs.Words.{date_text}
use Rattle.std.specs.Option.{option_map_or}
use Rattle.testing_rules_model.specs.declared.excuse.Excuse.{Excuse}
use Rattle.testing_rules_model.specs.declared.excuse.Reason.{Reason}
use Rattle.testing_rules_model.specs.declared.excuse.Reason.TheVariants.{TooYoung, NewBug, NoBinaries, MissingOn, Blocked, RemovalAsked}
use Rattle.testing_rules_model.specs.declared.update.Moved.{Moved}
use Rattle.testing_rules_model.specs.declared.update.Offender.{Offender}
use Rattle.testing_rules_model.specs.declared.update.Decision.{Decision}
use Rattle.testing_rules_model.specs.declared.update.Decision.TheVariants.{RemoveDone, RemoveRefused, EasyDone, EasyNotCandidate, EasyRefused, Accept, Wait}
use Rattle.testing_rules_model.specs.declared.suite.SourceIn.{SourceIn}
use Rattle.testing_rules_model.specs.declared.suite.RowIn.{RowIn}
use Rattle.testing_rules_model.specs.Suite.{Suite}
use Rattle.testing_rules_items.specs.Words.{Text, arch_name, is_empty}

-- words separated by one space
abbrev pub words : List Text → Text
words [] = []
words (w ∷ []) = w
words (w ∷ v ∷ vs) = w ++ 32 ∷ words (v ∷ vs)

-- a line of words
abbrev pub line : List Text → Text
line ws = words ws ++ 10 ∷ []

-- a line that begins with a space
abbrev pub inner_line : List Text → Text
inner_line ws = 32 ∷ line ws

-- a reason in words (Debian Developer's Reference 5.13.2; missing on an architecture, 5.13.2.1)
abbrev pub reason_words : List Text → Reason → List Text
reason_words archs TooYoung = codes "too young" ∷ []
reason_words archs (NewBug n) = codes "new bug" ∷ decimal n ∷ []
reason_words archs NoBinaries = codes "no binaries" ∷ []
reason_words archs (MissingOn arch) = codes "missing on" ∷ arch_name archs arch ∷ []
reason_words archs Blocked = codes "blocked" ∷ []
reason_words archs RemovalAsked = codes "removal asked" ∷ []

-- the lines of one excuse
abbrev pub source_words : Excuse → List Text
source_words e = e.source ∷ option_map_or (λ v. v) e.testing (codes "-") ∷ e.unstable ∷ []

-- the line on its age
abbrev pub age_words : Excuse → List Text
age_words e = codes "age" ∷ decimal e.age ∷ codes "of" ∷ decimal e.needed ∷ []

-- the last line
abbrev pub verdict : Excuse → Text
verdict e = if is_empty e.reasons then codes "candidate" else codes "not a candidate"

-- all its lines
abbrev pub excuse_text : List Text → Excuse → Text
excuse_text archs e =
    line (source_words e) ++ inner_line (age_words e)
    ++ flat_map (λ r. inner_line (reason_words archs r)) e.reasons
    ++ inner_line (verdict e ∷ [])

-- the first line of a run's report
abbrev pub heading : Text → ℕ → Date → Text
heading name run date = line (name ∷ decimal run ∷ date_text date ∷ [])

-- the report on excuses
abbrev pub excuses_text : List Text → ℕ → Date → List Excuse → Text
excuses_text archs run date es = heading (codes "excuses") run date ++ flat_map (excuse_text archs) es

-- the end of a line on a refused change: what it would break
abbrev pub offender_text : List Text → Offender → Text
offender_text archs o = 32 ∷ words (codes "uninstallable" ∷ arch_name archs o.arch ∷ o.«package» ∷ [])

-- the end of a line on a group: each item's name and version
abbrev pub moved_text : List Moved → Text
moved_text items = flat_map (λ i. 32 ∷ words (i.name ∷ i.version ∷ [])) items

-- a decision in words
abbrev pub decision_text : List Text → Decision → Text
decision_text archs (RemoveDone n name v) = words (codes "remove" ∷ decimal n ∷ codes "accept" ∷ name ∷ v ∷ [])
decision_text archs (RemoveRefused n name v o) = words (codes "remove" ∷ decimal n ∷ codes "refuse" ∷ name ∷ v ∷ []) ++ offender_text archs o
decision_text archs (EasyDone n items) = words (codes "easy" ∷ decimal n ∷ codes "accept" ∷ []) ++ moved_text items
decision_text archs (EasyNotCandidate n name v) = words (codes "easy" ∷ decimal n ∷ codes "refuse" ∷ (name ++ 47 ∷ v) ∷ codes "not a candidate" ∷ [])
decision_text archs (EasyRefused n o) = words (codes "easy" ∷ decimal n ∷ codes "refuse" ∷ []) ++ offender_text archs o
decision_text archs (Accept name v) = words (codes "accept" ∷ name ∷ v ∷ [])
decision_text archs (Wait name v o) = words (codes "wait" ∷ name ∷ v ∷ []) ++ offender_text archs o

-- the line of a decision
abbrev pub decision_line : List Text → Decision → Text
decision_line archs d = decision_text archs d ++ 10 ∷ []

-- the report on decisions
abbrev pub update_text : List Text → ℕ → Date → List Decision → Text
update_text archs run date ds = heading (codes "update") run date ++ flat_map (decision_line archs) ds

-- a source in testing
abbrev pub source_line : SourceIn → Text
source_line x = line (codes "source" ∷ x.name ∷ x.version ∷ [])

-- a row in testing
abbrev pub row_line : List Text → RowIn → Text
row_line archs r = line (codes "binary" ∷ arch_name archs r.arch ∷ r.binary.name ∷ r.binary.version ∷ r.binary.source ∷ [])

-- testing, with the number of finished runs
abbrev pub testing_text : List Text → ℕ → Suite → Text
testing_text archs finished t =
    line (codes "testing" ∷ decimal finished ∷ []) ++ flat_map source_line t.sources ++ flat_map (row_line archs) t.rows
