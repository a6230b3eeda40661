-- What a run made of one hint. That this is reported, and in which words, is this office's own.
use Rattle.std.specs.Prelude.{◌≡◌, ℕ, ◌+◌, ◌==◌, Bool, false, ◌||◌, if◌then◌else◌, List, [], ◌∷◌, ◌++◌, codes, decimal, filter, length, is_some, nat_eq, Option, Some, None}
use Rattle.std.specs.List.{flat_map, starts_with}
use Rattle.std.specs.Str.Lines.{lines}
use Rattle.jiff_core.specs.declared.civil.date.Date.{Date}
use Rattle.testing_rules_model.specs.Covered.{Covered}
use Rattle.testing_rules_model.specs.Suite.{Suite}
use Rattle.testing_rules_model.specs.Unstable.{hints_by_number, is_in_force, unhints_by_number}
use Rattle.testing_rules_model.specs.declared.facts.HintIn.{HintIn}
use Rattle.testing_rules_model.specs.declared.facts.UnhintIn.{UnhintIn}
use Rattle.testing_rules_model.specs.declared.update.Decision.{Decision}
use Rattle.testing_rules_model.specs.declared.update.Decision.TheVariants.{RemoveDone, RemoveRefused, EasyDone, EasyNotCandidate, EasyRefused}
use Rattle.testing_rules_reports.specs.Changes.{behind}
use Rattle.office_mail.specs.Lists.{Lists}
use Rattle.office_mail.specs.Kept.{Kept}
use Rattle.office_mail.specs.Runs.{cover, latest_day, orders_to}
use Rattle.office_core_replies.specs.Replies.{name_at}
use Rattle.office_core_facts.specs.Outcome.{outcome, testing_after}
use Rattle.office_core_facts.specs.Seen.{items_within, release}
use Rattle.office_core_outcome.specs.declared.HintText.{HintText}
use Rattle.office_core_outcome.specs.Proposal.{decisions_by}
use Rattle.office_core_outcome.specs.Trial.{judged_by}
use Rattle.office_core_outcome.specs.WhyRefused.{AreToldOf, hint_at}

-- the beginning of the lines of an update on the hint with the number, after one of two words
abbrev pub front : List ℕ → ℕ → List ℕ
front word number = word ++ (32 ∷ decimal number ++ 32 ∷ [])

abbrev pub begins_with_either : List ℕ → List ℕ → List ℕ → Bool
begins_with_either easy remove line = starts_with nat_eq line easy || starts_with nat_eq line remove

-- those lines
abbrev pub lines_on_hint : ℕ → List ℕ → List ℕ
lines_on_hint number update =
    flat_map (behind []) (filter (begins_with_either (front (codes "easy") number) (front (codes "remove") number)) (lines update))

-- the decision is on the hint with the number
abbrev pub is_of_hint : ℕ → Decision → Bool
is_of_hint number (RemoveDone hint name v) = hint == number
is_of_hint number (RemoveRefused hint name v offender) = hint == number
is_of_hint number (EasyDone hint items) = hint == number
is_of_hint number (EasyNotCandidate hint name v) = hint == number
is_of_hint number (EasyRefused hint offender) = hint == number
is_of_hint number _ = false

-- the state of a hint on which a run decides nothing: not covered by the run, taken back by an unhint, or nothing to do
abbrev pub standing_of : List UnhintIn → Option HintIn → List ℕ
standing_of unhints None = codes "unknown"
standing_of unhints (Some hint) = if is_in_force unhints hint then codes "nothing decided" else codes "cancelled"

-- the lines of an update on a hint, or the hint's state if there is none
abbrev pub lines_or_standing : List ℕ → List ℕ → List ℕ
lines_or_standing lines standing = if length lines == 0 then standing ++ 10 ∷ [] else lines

-- the text on a hint of a sender, from the update of a run, the hint's state, and why it is refused
abbrev pub hint_text : List ℕ → ℕ → ℕ → List ℕ → List ℕ → List ℕ → List ℕ
hint_text sender run number update standing reasons =
    codes "why " ++ (decimal run ++ (32 ∷ sender ++ (32 ∷ decimal number ++ (10 ∷ lines_or_standing (lines_on_hint number update) standing ++ reasons))))

-- the text on the hint with the number for a run over covered messages: its lines of the update, or its state, and why
pub record IsHintText (setup : Lists) (run : ℕ) (date : Date) (s : Covered) (t : Suite) (number : ℕ) (told : HintText) : Type 0 where
  pub reasons : List ℕ
  pub reasons_are : AreToldOf (judged_by setup 0 date s t) (filter (is_of_hint number) (decisions_by setup date s t)) reasons
  pub is : told.text ≡ hint_text (name_at setup (release setup)) run number (outcome setup run date s t).updates (standing_of (unhints_by_number s) (hint_at (hints_by_number s) number)) reasons
  pub known : told.is_known ≡ is_some (hint_at (hints_by_number s) number)

-- the same for run k + 1, over all kept mail covered by it and the testing that run k left
pub record IsHintTold (setup : Lists) (kept : Kept) (k number : ℕ) (told : HintText) : Type 0 where
  pub date : Date
  pub dated : latest_day (orders_to setup kept (k + 1)) ≡ Some date
  pub is : IsHintText setup (k + 1) date (items_within setup kept (cover setup kept (k + 1))) (testing_after setup kept k) number told
