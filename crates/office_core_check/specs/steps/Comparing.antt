-- What a store holds, compared with what a rebuilt office holds.
use Rattle.std.specs.Prelude.{◌≡◌, ◌≢◌, ℕ, ◌+◌, ◌≤◌, Bool, true, false, length, Option, Some, None, option_map}
use Rattle.office_mail.specs.Kept.{Kept}
use Rattle.office_mail.specs.Lists.{Lists}
use Rattle.office_mail.specs.Runs.{IsReady}
use Rattle.office_store_keeper.specs.Content.{Content, item_from_one}
use Rattle.office_store_keeper.specs.FactSet.{rows_in}
use Rattle.office_store_keeper.specs.MemoryState.{content_of}
use Rattle.office_store_keeper.specs.declared.values.Reports.{Reports}
use Rattle.office_core_facts.specs.State.{IsOffice}
use Rattle.office_core_check.specs.Earlier.{HoldsAfter}
use Rattle.office_core_check.specs.steps.Reading.{IsFront}
use Rattle.office_core_check.specs.Whole.{IsForeign, excuses_at, update_at}
use Rattle.office_core_check.specs.declared.memory.Bounded.{Bounded}
use Rattle.office_core_check.specs.declared.Checked.{Checked}
use Rattle.office_core_check.specs.declared.Checked.TheVariants.{Whole, Differs, Unread}
use Rattle.office_core_check.specs.declared.Difference.{Difference}
use Rattle.office_core_check.specs.declared.Difference.TheVariants.{Mail, RunMail, Excuses, Update, Testing, Facts, Tables}

-- the store in memory of a rebuilt office holds what an office leaves
abbrev pub IsAnew : Bounded → Type 0
IsAnew store = IsOffice store.plain.setup (content_of store.plain)

-- a sender's mail is taken, after that of earlier senders; or a text of it isn't a message of its place
abbrev pub IsTaken : Lists → Kept → ℕ → Kept → Option ℕ → Type 0
IsTaken setup kept sender front None = IsFront kept (sender + 1) 0 front
IsTaken setup kept sender front (Some number) = IsForeign setup kept (sender, number)

-- why no office with that many finished runs is rebuilt from a store's mail: a text not of its place, or an unready run
abbrev pub IsUnmade : Lists → Kept → ℕ → Difference → Type 0
IsUnmade setup kept runs (Mail sender number) = IsForeign setup kept (sender, number)
IsUnmade setup kept runs (RunMail run) = (1 ≤ run) × (run ≤ runs) × ((front : Kept) × IsFront kept (length setup.senders) 0 front × (IsReady setup front run → ⊥))
IsUnmade setup kept runs _ = ⊥

-- all mail of the setup's senders is taken, or a text of it isn't a message of its place
abbrev pub IsAllTaken : Lists → Kept → Kept → Option Difference → Type 0
IsAllTaken setup kept front None = IsFront kept (length setup.senders) 0 front
IsAllTaken setup kept front (Some difference) = (runs : ℕ) → IsUnmade setup kept runs difference

-- one of that many runs isn't ready
abbrev pub IsShort : Lists → Kept → ℕ → Difference → Type 0
IsShort setup kept runs (RunMail run) = (1 ≤ run) × (run ≤ runs) × (IsReady setup kept run → ⊥)
IsShort setup kept runs _ = ⊥

-- a rebuilt office took this part of a store's mail, that of all the setup's senders; or why none is built from it
abbrev pub IsMade : Lists → Kept → ℕ → Kept → Option Difference → Type 0
IsMade setup kept runs front None = IsFront kept (length setup.senders) 0 front
IsMade setup kept runs front (Some difference) = IsUnmade setup kept runs difference

-- a rebuilt office took all of a store's mail and finished the runs up to this one; or no office leaves that store
abbrev pub IsMadeAfter : Lists → Content → ℕ → Bounded → Bool → Type 0
IsMadeAfter setup content run office true = HoldsAfter setup content.kept run office
IsMadeAfter setup content run office false = IsOffice setup content → ⊥

-- such an office, if one is built; there is none only if no office leaves that store
abbrev pub IsMadeUpTo : Lists → Content → ℕ → Option Bounded → Type 0
IsMadeUpTo setup content run None = IsOffice setup content → ⊥
IsMadeUpTo setup content run (Some office) = HoldsAfter setup content.kept run office

-- how the reports of a run differ, if they do
abbrev pub IsRunDifference : ℕ → Option Reports → Option Reports → Option Difference → Type 0
IsRunDifference run these those None = these ≡ those
IsRunDifference run these those (Some (Excuses k)) = (k ≡ run) × (option_map (λ r. r.excuses) these ≢ option_map (λ r. r.excuses) those)
IsRunDifference run these those (Some (Update k)) = (k ≡ run) × (option_map (λ r. r.updates) these ≢ option_map (λ r. r.updates) those)
IsRunDifference run these those (Some _) = ⊥

-- a difference between what two stores hold of that many runs
abbrev pub IsUnlike : Content → Content → ℕ → Difference → Type 0
IsUnlike these those runs (Mail sender number) = ⊥
IsUnlike these those runs (RunMail run) = ⊥
IsUnlike these those runs (Excuses run) = (1 ≤ run) × (run ≤ runs) × (excuses_at run these.reports ≢ excuses_at run those.reports)
IsUnlike these those runs (Update run) = (1 ≤ run) × (run ≤ runs) × (update_at run these.reports ≢ update_at run those.reports)
IsUnlike these those runs Testing = these.testing ≢ those.testing
IsUnlike these those runs Facts = (these.testing ≡ those.testing) × (rows_in these.facts ≢ rows_in those.facts)
IsUnlike these those runs Tables = ⊥

-- the reports of that many runs are the same, or there is a difference
abbrev pub AreRunsCompared : Content → Content → ℕ → Option Difference → Type 0
AreRunsCompared these those runs None = (k : ℕ) → 1 ≤ k → k ≤ runs → item_from_one k these.reports ≡ item_from_one k those.reports
AreRunsCompared these those runs (Some difference) = IsUnlike these those runs difference

-- all is the same, or there is a difference
abbrev pub IsCompared : Content → Content → ℕ → Option Difference → Type 0
IsCompared these those runs None =
    ((k : ℕ) → 1 ≤ k → k ≤ runs → item_from_one k these.reports ≡ item_from_one k those.reports) × (these.testing ≡ those.testing) × (rows_in these.facts ≡ rows_in those.facts)
IsCompared these those runs (Some difference) = IsUnlike these those runs difference

-- the finding on a store that is the same in all else: it is legible and keeps no other mail, or not both
abbrev pub IsReadAs : Type 0 → ℕ → Checked → Type 0
IsReadAs both runs (Whole found) = (found ≡ runs) × both
IsReadAs both runs (Differs Tables) = both → ⊥
IsReadAs both runs (Differs _) = ⊥
IsReadAs both runs (Unread part) = ⊥
