-- Hints that are proposed: a trial takes them, and its run does each. And what is told of the sources that were asked
-- for: that one is no candidate, or what shows that no group frees it.
use Rattle.std.specs.Prelude.{◌≡◌, ℕ, ◌+◌, ◌==◌, Bool, true, false, ◌&&◌, List, [], ◌∷◌, ◌++◌, codes, filter, Option, Some, None, unwrap_or, IfSome}
use Rattle.std.specs.List.{AllZip, flat_map, list_any}
use Rattle.std.specs.Str.{bytes_eq}
use Rattle.jiff_core.specs.declared.civil.date.Date.{Date}
use Rattle.testing_rules_items.specs.Words.{Text}
use Rattle.testing_rules_model.specs.Covered.{Covered}
use Rattle.testing_rules_model.specs.Excuses.{excuses_of}
use Rattle.testing_rules_model.specs.Suite.{Suite}
use Rattle.testing_rules_model.specs.Unstable.{in_force, unstable_rows, unstable_sources}
use Rattle.testing_rules_model.specs.Updates.{in_turn, move_easy, remove_item, removals_of, update_of}
use Rattle.testing_rules_model.specs.declared.excuse.Excuse.{Excuse}
use Rattle.testing_rules_model.specs.declared.update.Decision.{Decision}
use Rattle.testing_rules_model.specs.declared.update.Moved.{Moved}
use Rattle.testing_rules_model.specs.declared.update.Decision.TheVariants.{EasyDone, Accept}
use Rattle.office_core_outcome.specs.NoCandidate.{no_candidate_line}
use Rattle.testing_rules_refusals.specs.Stuck.{IsStuckText}
use Rattle.office_mail.specs.Lists.{Lists}
use Rattle.office_mail.specs.Kept.{Kept}
use Rattle.office_mail.specs.Runs.{latest_day, orders_to}
use Rattle.office_core_facts.specs.Outcome.{testing_after}
use Rattle.office_core_facts.specs.Seen.{AreTrialCovers, items_within, release}
use Rattle.office_core_outcome.specs.declared.TrialOptions.{TrialOptions}
use Rattle.office_core_outcome.specs.declared.proposal.Proposal.{Proposal}
use Rattle.office_core_outcome.specs.Hints.{first_refused, hint_letters, with_letters}
use Rattle.office_core_outcome.specs.Trial.{trial_date}

-- what a run decides, before it is written as texts
abbrev pub decisions_by : Lists → Date → Covered → Suite → List Decision
decisions_by setup date mail t = (update_of setup.archs mail (excuses_of setup.archs mail t date) t).decisions

-- what the run of a trial with these hints decides: over what the covers cover, and the messages of the hints after it
abbrev pub tried_decisions : Lists → Kept → ℕ → Date → (ℕ → ℕ) → List (List ℕ) → List Decision
tried_decisions setup kept k date covers hints =
    decisions_by setup date (with_letters setup (release setup) (hint_letters setup (covers (release setup)) hints) (items_within setup kept covers)) (testing_after setup kept k)

-- the hint for a group
abbrev pub easy_text : List Moved → List ℕ
easy_text group = codes "easy" ++ flat_map (λ m. 32 ∷ m.name ++ 47 ∷ m.version) group

-- by this number a group moved, and this is its hint
abbrev pub is_done : ℕ → List ℕ → Decision → Bool
is_done number hint d = elim d [ EasyDone n group ↦ (n == number) && bytes_eq (easy_text group) hint | _ ↦ false ]

-- the source moved, in a group or alone
abbrev pub is_moved : Text → Decision → Bool
is_moved source d = elim d [
  | EasyDone hint items ↦ list_any (λ m. bytes_eq m.name source) items
  | Accept name v ↦ bytes_eq name source
  | _ ↦ false
]

-- each of the hints, whose numbers go on behind this one, is that of a group that moved by its number
abbrev pub are_done : ℕ → List (List ℕ) → List Decision → Bool
are_done number [] ds = true
are_done number (hint ∷ rest) ds = list_any (is_done (number + 1) hint) ds && are_done (number + 1) rest ds

-- all sources that move in the one run move in the other too
abbrev pub KeepsMoves : List Decision → List Decision → Type 0
KeepsMoves one other = (source : Text) → list_any (is_moved source) one ≡ true → list_any (is_moved source) other ≡ true

-- those of the sources that moved
abbrev pub freed_by : List Decision → List Text → List Text
freed_by ds sources = filter (λ source. list_any (is_moved source) ds) sources

-- testing after the removals and groups of the hints in force, before any source moves alone
abbrev pub behind_standing : List Text → Covered → List Excuse → Suite → Suite
behind_standing archs mail excuses t =
    (in_turn (move_easy archs (unstable_sources mail) (unstable_rows archs mail) excuses) (in_force mail) (in_turn (remove_item archs) (flat_map removals_of (in_force mail)) t).suite).suite

-- a text shows that no group frees the source after the hints in force, over these messages and by this date's excuses
abbrev pub IsShownStuck : List Text → Date → Covered → Suite → Text → Text → Type 0
IsShownStuck archs date mail t source text =
    let excuses : List Excuse = excuses_of archs mail t date in
    IsStuckText archs (unstable_sources mail) (unstable_rows archs mail) excuses (behind_standing archs mail excuses t) source text

-- the line on a source that isn't a candidate of this date's run over these messages; none for a candidate
abbrev pub line_of : List Text → Date → Covered → Suite → Text → Option Text
line_of archs date mail t source =
    let excuses : List Excuse = excuses_of archs mail t date in
    no_candidate_line archs (unstable_sources mail) excuses (behind_standing archs mail excuses t) source

-- what is told of a source: its line, if it has one; else nothing, or a text that shows what it has to show
abbrev pub IsAnswer : Option Text → (Text → Type 0) → Option Text → Type 0
IsAnswer (Some line) Shows text = text ≡ Some line
IsAnswer None Shows text = IfSome text Shows

-- that is told of each of the sources: the text shows that no group frees it, and there is none for one that moved
abbrev pub AreAnswers : List Text → Date → Covered → Suite → List Decision → List Text → List (Option Text) → Type 0
AreAnswers archs date mail t ds sources texts =
    AllZip (λ source text. IsAnswer (line_of archs date mail t source) (λ shown. (list_any (is_moved source) ds ≡ false) × IsShownStuck archs date mail t source shown) text) sources texts

-- Proposed behind k finished runs: a trial on these terms takes the hints, its run moves the group of each, and all
-- that moves without the hints. Those of the sources that are said to be freed are those that it moves. The answers
-- tell of each of the sources whether it is a candidate, and what shows that no group frees it.
pub record IsProposed (setup : Lists) (kept : Kept) (k : ℕ) (terms : TrialOptions) (sources : List Text) (p : Proposal) : Type 0 where
  pub covers : ℕ → ℕ
  pub are : AreTrialCovers setup kept k terms.all covers
  pub dated : trial_date (latest_day (orders_to setup kept k)) terms.day ≡ Some p.date
  pub run : p.run ≡ k + 1
  pub first : p.first ≡ covers (release setup) + 1
  pub taken : first_refused setup (covers (release setup)) 0 p.hints.items ≡ None
  pub done : are_done (covers (release setup)) p.hints.items (tried_decisions setup kept k p.date covers p.hints.items) ≡ true
  pub keeps : KeepsMoves (decisions_by setup p.date (items_within setup kept covers) (testing_after setup kept k)) (tried_decisions setup kept k p.date covers p.hints.items)
  pub freed : p.freed.items ≡ freed_by (tried_decisions setup kept k p.date covers p.hints.items) sources
  pub answers : AreAnswers setup.archs p.date (items_within setup kept covers) (testing_after setup kept k) (tried_decisions setup kept k p.date covers p.hints.items) sources p.answers.items

-- what is printed: a line for each hint, and then the answers
abbrev pub proposal_text : List (List ℕ) → List (Option (List ℕ)) → List ℕ
proposal_text hints answers = flat_map (λ hint. hint ++ 10 ∷ []) hints ++ flat_map (λ text. unwrap_or text []) answers
