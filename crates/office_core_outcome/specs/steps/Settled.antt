-- Hints of which the run does each, and what is told of the sources that were asked for.
use Rattle.std.specs.Prelude.{◌≡◌, ℕ, true, false, List, [], ◌∷◌, map, Option, None}
use Rattle.std.specs.List.{AllZip, list_any}
use Rattle.jiff_core.specs.declared.civil.date.Date.{Date}
use Rattle.testing_rules_model.specs.Covered.{Covered}
use Rattle.testing_rules_model.specs.FactLists.{FactLists}
use Rattle.testing_rules_model.specs.StandsFor.{StandsFor}
use Rattle.testing_rules_model.specs.Suite.{Suite}
use Rattle.testing_rules_model.specs.Unstable.{built_rows}
use Rattle.testing_rules_model.specs.declared.excuse.Excuse.{Excuse}
use Rattle.testing_rules_model.specs.declared.update.Decision.{Decision}
use Rattle.testing_rules_model.specs.declared.update.Decision.TheVariants.{RemoveDone, RemoveRefused, EasyDone, EasyNotCandidate, EasyRefused, Accept, Wait}
use Rattle.testing_rules_items.specs.Words.{Text}
use Rattle.office_core_outcome.specs.NoCandidate.{no_candidate_line}
use Rattle.testing_rules_refusals.specs.Stuck.{IsStuckText}
use Rattle.office_mail.specs.Lists.{Lists}
use Rattle.office_core_facts.specs.Seen.{release}
use Rattle.office_core_outcome.specs.Hints.{first_refused, hint_letters, with_letters}
use Rattle.office_core_outcome.specs.Proposal.{AreAnswers, IsAnswer, KeepsMoves, are_done, decisions_by, is_moved}
use Rattle.office_core_outcome.specs.declared.asked.Asked.{Asked}

-- the names of the sources that the decision moves
abbrev pub names_in : Decision → List Text
names_in d = elim d [
  | RemoveDone hint name v ↦ []
  | RemoveRefused hint name v offender ↦ []
  | EasyDone hint items ↦ map (λ m. m.name) items
  | EasyNotCandidate hint name v ↦ []
  | EasyRefused hint offender ↦ []
  | Accept name v ↦ name ∷ []
  | Wait name v offender ↦ []
]

-- Hints behind a number are taken, and these are the decisions of the run with them, over all that the facts stand for.
-- The run does each of the hints.
pub record IsSettled (setup : Lists) (date : Date) (number : ℕ) (facts : FactLists) (t : Suite) (hints : List (List ℕ)) (ds : List Decision) : Type 0 where
  pub taken : first_refused setup number 0 hints ≡ None
  pub done : are_done number hints ds ≡ true
  pub decided : (s : Covered) → StandsFor facts s t → ds ≡ decisions_by setup date (with_letters setup (release setup) (hint_letters setup number hints) s) t

-- the decisions move all that the run moves without the hints, over all that the facts stand for
abbrev pub KeepsMovesOver : Lists → Date → FactLists → Suite → List Decision → Type 0
KeepsMovesOver setup date facts t ds = (s : Covered) → StandsFor facts s t → KeepsMoves (decisions_by setup date s t) ds

-- hints and decisions are settled for what a search is asked
abbrev pub IsSettledFor : Asked → Suite → List (List ℕ) → List Decision → Type 0
IsSettledFor asked t hints ds = IsSettled asked.setup.now asked.date asked.number asked.facts.now t hints ds

-- decisions move all that the run moves without hints, by what a search is asked
abbrev pub KeepsMovesFor : Asked → Suite → List Decision → Type 0
KeepsMovesFor asked t ds = KeepsMovesOver asked.setup.now asked.date asked.facts.now t ds

-- by facts, excuses, and testing behind the hints that stand, a text shows that no group frees the source, which these
-- decisions don't move
abbrev pub IsStuckBehind : List Text → FactLists → List Excuse → Suite → List Decision → Text → Text → Type 0
IsStuckBehind archs facts excuses behind ds source text =
    (list_any (is_moved source) ds ≡ false) × IsStuckText archs facts.sources (built_rows archs facts.rows) excuses behind source text

-- this is told of the source: such a text or none, or else the line of one that isn't a candidate
abbrev pub IsAnswerBehind : List Text → FactLists → List Excuse → Suite → List Decision → Text → Option Text → Type 0
IsAnswerBehind archs facts excuses behind ds source text =
    IsAnswer (no_candidate_line archs facts.sources excuses behind source) (IsStuckBehind archs facts excuses behind ds source) text

-- these are told of the sources
abbrev pub AreAnswersBehind : List Text → FactLists → List Excuse → Suite → List Decision → List Text → List (Option Text) → Type 0
AreAnswersBehind archs facts excuses behind ds sources texts = AllZip (IsAnswerBehind archs facts excuses behind ds) sources texts

-- the same over all messages that the facts represent
abbrev pub AreAnswersOver : List Text → Date → FactLists → Suite → List Decision → List Text → List (Option Text) → Type 0
AreAnswersOver archs date facts t ds sources texts = (s : Covered) → StandsFor facts s t → AreAnswers archs date s t ds sources texts

-- this is told of the sources that a search is asked for
abbrev pub AreAnswersFor : Asked → Suite → List Decision → List (Option Text) → Type 0
AreAnswersFor asked t ds texts = AreAnswersOver asked.setup.now.archs asked.date asked.facts.now t ds asked.sources.now texts
