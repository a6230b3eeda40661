-- The text of a proof that a row isn't installable if sources moved or one was removed. This office decides its form.
-- Reasons have the words of the report on excuses.
use Rattle.std.specs.Prelude.{Bool, false, ◌&&◌, if◌then◌else◌, List, [], ◌∷◌, ◌++◌, codes}
use Rattle.std.specs.List.{flat_map}
use Rattle.std.specs.Option.{is_none}
use Rattle.testing_rules_items.specs.Words.{Text, is_empty}
use Rattle.testing_rules_model.specs.declared.excuse.Excuse.{Excuse}
use Rattle.testing_rules_model.specs.declared.excuse.Reason.{Reason}
use Rattle.testing_rules_model.specs.declared.facts.UploadIn.{UploadIn}
use Rattle.testing_rules_model.specs.declared.suite.RowIn.{RowIn}
use Rattle.testing_rules_model.specs.Boxed.{unboxed}
use Rattle.testing_rules_model.specs.Excuses.{testing_version}
use Rattle.testing_rules_model.specs.Moves.{is_row_of}
use Rattle.testing_rules_model.specs.Suite.{Suite}
use Rattle.testing_rules_excuses.specs.declared.states.State.{State}
use Rattle.testing_rules_excuses.specs.declared.states.State.TheVariants.{Waits, NotCandidate, NotCurrent, ComesToo, InTesting}
use Rattle.testing_rules_excuses.specs.States.{is_current_in, state_of}
use Rattle.testing_rules_refusals.specs.declared.proof_text.Telling.{Telling}
use Rattle.testing_rules_refusals.specs.Lines.{package_text, need_line, leaves_line}
use Rattle.testing_rules_refusals.specs.Told.{ToldLine}
use Rattle.testing_rules_reports.specs.Reports.{words, reason_words}

-- what the lines need to know: unstable's sources, the excuses of the run, the sources that come, and those that no
-- group frees
pub record Known : Type 0 where
  pub archs : List Text
  pub sources : List UploadIn
  pub excuses : List Excuse
  pub coming : List Text
  pub stuck : List Text

-- in the code's type
abbrev pub known_of : Telling → Known
known_of t = record { archs = t.archs.now; sources = unboxed t.unstable.sources.now; excuses = t.excuses.now; coming = t.coming.now; stuck = t.stuck.now }

-- a reason after another
abbrev pub other_reason : List Text → Reason → Text
other_reason archs r = codes ", " ++ words (reason_words archs r)

-- reasons, separated by commas
abbrev pub reasons_text : List Text → List Reason → Text
reasons_text archs [] = []
reasons_text archs (r ∷ others) = words (reason_words archs r) ++ flat_map (other_reason archs) others

-- the state of a row of unstable
abbrev pub state_text : List Text → State → Text
state_text archs Waits = codes "waits"
state_text archs (NotCandidate reasons) = codes "isn't a candidate: " ++ reasons_text archs reasons
state_text archs NotCurrent = codes "isn't current"
state_text archs ComesToo = codes "comes too"
state_text archs InTesting = codes "is in testing"

-- the row is current and belongs to one of the sources (Debian Developer's Reference 5.13.2.1)
abbrev pub comes_with : List UploadIn → List Text → RowIn → Bool
comes_with sources group r = is_row_of group r && is_current_in sources r

-- the row's source if it is in the group, else no name
abbrev pub moving_with : List Text → RowIn → Text
moving_with group r = if is_row_of group r then r.binary.source else []

-- the state of a row of unstable, in words: a current row of a source that no group frees is stuck
abbrev pub offer_words : Known → RowIn → Text
offer_words k r = if comes_with k.sources k.stuck r then codes "is stuck" else state_text k.archs (state_of k.sources k.excuses (moving_with k.coming r) r)

-- the line of a row of unstable that would meet a clause, with its state
abbrev pub offer_line : Known → RowIn → Text
offer_line k r = codes "unstable " ++ package_text r ++ 32 ∷ offer_words k r ++ 10 ∷ []

-- the lines of the rows of unstable that would meet a clause, or that there are none
abbrev pub offers_text : Known → List RowIn → Text
offers_text k [] = codes "unstable nothing" ++ 10 ∷ []
offers_text k (r ∷ rows) = flat_map (offer_line k) (r ∷ rows)

-- Within a run. Its excuses are those before its removals, and testing is as it is at a turn.

-- A source that has nothing to move was removed by the run if testing doesn't have it any more. A hint asked for that
-- (after britney2's `remove`).
abbrev pub was_removed : Suite → Text → State → Bool
was_removed t name Waits = false
was_removed t name (NotCandidate reasons) = false
was_removed t name NotCurrent = false
was_removed t name ComesToo = false
was_removed t name InTesting = is_none (testing_version t name)

-- the state of a row of unstable, in words
abbrev pub state_within : Bool → List Text → State → Text
state_within removed archs s = if removed then codes "isn't a candidate: removal asked" else state_text archs s

-- the same by the excuses of the run, and by testing
abbrev pub words_within : Suite → Known → RowIn → Text
words_within t k r =
    let state = state_of k.sources k.excuses (moving_with k.coming r) r in
    if comes_with k.sources k.stuck r then codes "is stuck" else state_within (was_removed t r.binary.source state) k.archs state

-- the line of a row of unstable that would meet a clause, with its state
abbrev pub line_within : Suite → Known → RowIn → Text
line_within t k r = codes "unstable " ++ package_text r ++ 32 ∷ words_within t k r ++ 10 ∷ []

-- the lines of the rows of unstable that would meet a clause, or that there are none
abbrev pub offers_within : Suite → Known → List RowIn → Text
offers_within t k [] = codes "unstable nothing" ++ 10 ∷ []
offers_within t k (r ∷ rows) = flat_map (line_within t k) (r ∷ rows)

-- the lines after one with an unmet clause: the rows of testing that met it before, and those of unstable that would
abbrev pub help_text : Suite → Known → ToldLine → Text
help_text t k l = flat_map leaves_line l.leaving ++ offers_within t k l.offers

-- a line and the lines that belong to it
abbrev pub told_text : Suite → Known → ToldLine → Text
told_text t k l = need_line (comes_with k.sources k.coming l.need.row) l.number l.need l.met_by ++ (if is_empty l.met_by then help_text t k l else [])

-- all lines
abbrev pub refusal_text : Suite → Known → List ToldLine → Text
refusal_text t k lines = flat_map (told_text t k) lines
