-- What a check finds of a store: that it is legible and holds what an office leaves, or where it doesn't. That a store
-- is checked is this office's own.
use Rattle.std.specs.Prelude.{◌≡◌, ◌≢◌, ℕ, ◌<◌, ◌≤◌, Bool, true, false, List, length, Option, Some, IsSome, Result, Ok, Err, option_map}
use Rattle.std.specs.FinMap.{get}
use Rattle.office_mail.specs.Counts.{HasRisen}
use Rattle.office_mail.specs.Kept.{Kept, Place, placed}
use Rattle.office_mail.specs.Lists.{Lists}
use Rattle.office_mail.specs.Runs.{IsReady}
use Rattle.office_store_keeper.specs.Content.{Content, item_from_one}
use Rattle.office_store_keeper.specs.declared.faults.KeepFault.{KeepFault}
use Rattle.office_store_keeper.specs.declared.faults.KeepFault.TheVariants.{Store}
use Rattle.office_store_keeper.specs.declared.values.Reports.{Reports}
use Rattle.office_core_facts.specs.Outcome.{reports_of, testing_after}
use Rattle.office_core_facts.specs.State.{IsOffice, KeepsFacts}
use Rattle.office_core_check.specs.declared.Checked.{Checked}
use Rattle.office_core_check.specs.declared.Checked.TheVariants.{Whole, Differs, Unread}
use Rattle.office_core_check.specs.declared.Difference.{Difference}
use Rattle.office_core_check.specs.declared.Difference.TheVariants.{Mail, RunMail, Excuses, Update, Testing, Facts, Tables}

-- all kept mail is of senders of the setup
abbrev pub AreOfSenders : Lists → Kept → Type 0
AreOfSenders setup kept = (p : Place) → IsSome (get kept p) → p.0 < length setup.senders

-- the text kept at a place isn't a message of that place
abbrev pub IsForeign : Lists → Kept → Place → Type 0
IsForeign setup kept p = (text : List ℕ) × (get kept p ≡ Some text) × (placed setup text ≢ Some (p, text))

-- the excuses of a run, and its update, of some reports
abbrev pub excuses_at : ℕ → List Reports → Option (List ℕ)
excuses_at run reports = option_map (λ r. r.excuses) (item_from_one run reports)

abbrev pub update_at : ℕ → List Reports → Option (List ℕ)
update_at run reports = option_map (λ r. r.updates) (item_from_one run reports)

-- a run is one of the finished ones
abbrev pub IsFinished : Content → ℕ → Type 0
IsFinished content run = (1 ≤ run) × (run ≤ length content.reports)

-- where a store, legible or not, doesn't hold what an office with its mail leaves: a text, an unready run, a report,
-- testing, or the facts. Or it isn't legible
abbrev pub IsDifference : Lists → Content → Type 0 → Difference → Type 0
IsDifference setup content legible (Mail sender number) = IsForeign setup content.kept (sender, number)
IsDifference setup content legible (RunMail run) = IsFinished content run × (IsReady setup content.kept run → ⊥)
IsDifference setup content legible (Excuses run) = IsFinished content run × (excuses_at run content.reports ≢ Some (reports_of setup content.kept run).excuses)
IsDifference setup content legible (Update run) = IsFinished content run × (update_at run content.reports ≢ Some (reports_of setup content.kept run).updates)
IsDifference setup content legible Testing = content.testing ≢ testing_after setup content.kept (length content.reports)
IsDifference setup content legible Facts = KeepsFacts setup content → ⊥
IsDifference setup content legible Tables = legible → ⊥

-- What is found of a store, which was legible before or not, and is after it or not: it is legible and holds what an
-- office leaves; or there is a difference, if its mail is of senders of the setup; or a row doesn't read, as in no
-- legible store that an office left.
abbrev pub IsFound : Lists → Content → Type 0 → Type 0 → Checked → Type 0
IsFound setup content was legible (Whole runs) = (runs ≡ length content.reports) × legible × IsOffice setup content
IsFound setup content was legible (Differs difference) = AreOfSenders setup content.kept → IsDifference setup content legible difference
IsFound setup content was legible (Unread part) = was → IsOffice setup content → ⊥

-- a check came to its end, with every row read
abbrev pub is_read : Result Checked KeepFault → Bool
is_read (Ok (Unread part)) = false
is_read (Ok found) = true
is_read (Err fault) = false

-- the store counts a refusal where a row doesn't read, and where the database failed
abbrev pub CountedCheck : ℕ → ℕ → Result Checked KeepFault → Type 0
CountedCheck before after (Ok (Unread part)) = HasRisen before after
CountedCheck before after (Err (Store cause)) = HasRisen before after
CountedCheck before after _ = after ≡ before
