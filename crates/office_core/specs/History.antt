-- The history of an office: what came to it and what it did, step by step, and what is true after any list of steps.
use Rattle.std.specs.Prelude.{◌≡◌, ℕ, ◌+◌, ◌≤◌, ◌↔◌, Bool, true, false, List, [], ◌∷◌, ◌++◌, fold, length, map, flat_map, replicate, Some, Result, Ok, Err}
use Rattle.std.specs.FinMap.{get, empty}
use Rattle.office_mail.specs.Kept.{kept_from, place_of}
use Rattle.office_mail.specs.Laws.{Delivers, OneText}
use Rattle.office_mail.specs.Lists.{Lists}
use Rattle.office_mail.specs.Read.{read}
use Rattle.office_mail.specs.Runs.{IsReady, IsReadyCount, orders_to, latest_day}
use Rattle.office_mail.specs.declared.message.Message.{Message}
use Rattle.office_store_keeper.specs.Content.{Content}
use Rattle.office_core_replies.specs.Replies.{mark_of}
use Rattle.office_core_replies.specs.declared.faults.DeliverFault.{DeliverFault}
use Rattle.office_core_replies.specs.declared.faults.Held.{Held}
use Rattle.office_core_store.specs.declared.faults.StoreFault.{StoreFault}
use Rattle.office_core_replies.specs.declared.replies.Mark.{Mark}
use Rattle.office_core_replies.specs.declared.replies.Mark.TheVariants.{Taken}
use Rattle.office_core_orders.specs.declared.wait_lines.Progress.{Progress}
use Rattle.office_core.specs.Laws.{RunsStay}
use Rattle.office_core.specs.Visible.{Visible, visible}
use Rattle.office_core_facts.specs.Outcome.{Outcome, covered_items, outcome_on, reports_from, reports_to, testing_after}

-- one step
pub data Step : Type 0 where
  -- a text came: it is kept if it is a message with a free number
  Took : List ℕ → Step
  -- a text came, and was refused
  Refused : List ℕ → Step
  -- a text never came, or was answered NoMemory or Store
  Lost : List ℕ → Step
  -- a settle finished the next run
  Finished : Step
  -- a settle answered Ok
  Settled : Step
  -- a settle answered a fault
  Stopped : Step
  -- the office was asked, or nothing was done
  Looked : Step

-- the office with this text too, if it is a message with a free number
abbrev pub keeping : Lists → List ℕ → Visible → Visible
keeping setup text old = record old { kept = kept_from setup old.kept (text ∷ []) }

-- what the promotion rules give for the next run from its day, its covered messages and the current testing
abbrev pub by_rules : Lists → Visible → Outcome
by_rules setup c = let k : ℕ = length c.reports + 1 in outcome_on setup k (latest_day (orders_to setup c.kept k)) (covered_items setup c.kept k) c.testing

-- the office with the reports of the next run and its testing, as the rules give them
abbrev pub finishing : Lists → Visible → Visible
finishing setup old = record old { reports = old.reports ++ reports_from (by_rules setup old) ∷ []; testing = (by_rules setup old).testing }

-- What a step does: it keeps a text, finishes the next run, which is ready, or changes nothing. Nothing of a refused
-- text is kept, and if a settle answers Ok just the ready runs are finished.
abbrev pub Does : Lists → Step → Visible → Visible → Type 0
Does setup (Took text) old new = new ≡ keeping setup text old
Does setup (Refused text) old new = (new ≡ keeping setup text old) × (new ≡ old)
Does setup Finished old new = IsReady setup old.kept (length old.reports + 1) × (new ≡ finishing setup old)
Does setup Settled old new = (new ≡ old) × IsReadyCount setup old.kept (length old.reports)
Does setup _ old new = new ≡ old

-- the steps, one after another, lead from one office to another
unfoldable pub Follow : Lists → Visible → List Step → Visible → Type 0
Follow setup old [] new = new ≡ old
Follow setup old (s ∷ ss) new = (between : Visible) × Does setup s old between × Follow setup between ss new

-- the same of stores' contents, whatever their rows of facts
abbrev pub Leads : Lists → Content → List Step → Content → Type 0
Leads setup old steps new = Follow setup (visible old) steps (visible new)

-- the texts that came and weren't lost, in order: losses leave gaps, repeats occur twice
abbrev pub text_in : Step → List (List ℕ)
text_in (Took text) = text ∷ []
text_in (Refused text) = text ∷ []
text_in _ = []

-- the texts of all steps, in order (this office decides it)
abbrev pub texts_in : List Step → List (List ℕ)
texts_in steps = flat_map text_in steps

-- whether the office is settled: a settle answered Ok, and nothing was held since
abbrev pub settled_by : Bool → Step → Bool
settled_by was (Took text) = false
settled_by was Finished = false
settled_by was Settled = true
settled_by was _ = was

-- whether a new office is settled after these steps (this office decides it)
abbrev pub is_settled : List Step → Bool
is_settled steps = fold settled_by false steps

-- what the headline says of an office that received these texts
pub record IsByRules (setup : Lists) (texts : List (List ℕ)) (office : Visible) : Type 0 where
  -- of each sender and number, the first message that came is kept
  pub kept : office.kept ≡ kept_from setup empty texts
  -- and so is each message that came, once, if no sender gives one number two texts
  pub all : OneText setup texts → (text : List ℕ) (m : Message) → Delivers setup texts text m ↔ ((get office.kept (place_of m) ≡ Some text) × (read setup text ≡ Ok m))
  -- each finished run is ready
  pub ready : IsReady setup office.kept (length office.reports)
  -- both reports of every finished run, and testing, are what the promotion rules give for that run's covered messages
  pub reports : office.reports ≡ reports_to setup office.kept (length office.reports)
  pub testing : office.testing ≡ testing_after setup office.kept (length office.reports)

-- what two offices share if the same texts came to both, in any order and with any repeats
pub record Agree (xs ys : List Step) (a b : Visible) : Type 0 where
  -- the mail is the same
  pub kept : a.kept ≡ b.kept
  -- the finished runs of the one are the beginning of those of the other
  pub runs : length a.reports ≤ length b.reports → RunsStay a b
  -- settled offices have finished the same
  pub settled : is_settled xs ≡ true → is_settled ys ≡ true → (a.reports ≡ b.reports) × (a.testing ≡ b.testing)

-- a delivery with its answer, as a step
abbrev pub refusal : Mark → List ℕ → Step
refusal Taken text = Refused text
refusal _ text = Lost text

abbrev pub delivery : List ℕ → Result Held DeliverFault → Step
delivery text (Ok held) = Took text
delivery text (Err fault) = refusal (mark_of (Err fault)) text

-- deliveries with their answers
abbrev pub deliveries : List (List ℕ) → List (Result Held DeliverFault) → List Step
deliveries (t ∷ ts) (a ∷ rest) = delivery t a ∷ deliveries ts rest
deliveries _ _ = []

-- a settle that finished n runs, with its answer, as steps
abbrev pub answer_step : Result Progress StoreFault → Step
answer_step (Ok progress) = Settled
answer_step (Err fault) = Stopped

abbrev pub settling : ℕ → Result Progress StoreFault → List Step
settling n answer = replicate n Finished ++ answer_step answer ∷ []

-- texts that came, n runs that finished, and a last step
abbrev pub coming : List (List ℕ) → ℕ → Step → List Step
coming texts n last = map (λ text. Took text) texts ++ (replicate n Finished ++ last ∷ [])
