-- Steps beside `specs/Told.antt`.
use Rattle.std.specs.Prelude.{◌≡◌, ◌⊎◌, ◌<◌, ◌==◌, ℕ, Option, Some, None, if◌then◌else◌, length}
use Rattle.office_core_outcome.specs.declared.proposal.Proposal.{Proposal}
use Rattle.office_core_orders.specs.declared.wait_lines.Awaited.{Awaited}
use Rattle.office_core_orders.specs.declared.wait_lines.Awaited.TheVariants.{Order, Mail}
use Rattle.office_cli.specs.declared.reasons.WhichRun.{WhichRun}
use Rattle.office_cli.specs.declared.reasons.WhichRun.TheVariants.{Last, Earlier, Unfinished}

-- 0 if a run waits for its order, 1 if it waits for mail
abbrev pub status_of_awaited : Awaited → ℕ
status_of_awaited Order = 0
status_of_awaited (Mail lacks) = 1

-- 0 if hints are proposed, or if that many sources were asked for and the run with the hints moves each of them; else 1
abbrev pub status_of_proposal : ℕ → Proposal → ℕ
status_of_proposal asked proposal =
    if asked == 0 then (if length proposal.hints.items == 0 then 1 else 0)
    else (if length proposal.freed.items == asked then 0 else 1)

-- The run that is asked about, given the number of finished runs: the last one, if it or none is named; an earlier one;
-- or one that isn't finished.
abbrev pub IsAsked : ℕ → Option ℕ → WhichRun → Type 0
IsAsked finished run (Last k) = (k ≡ finished) × ((run ≡ None) ⊎ (run ≡ Some k))
IsAsked finished run (Earlier k) = (run ≡ Some k) × (k < finished)
IsAsked finished run Unfinished = (k : ℕ) × (run ≡ Some k) × (finished < k)
