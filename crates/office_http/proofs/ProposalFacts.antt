-- What is proposed to a request.
use Rattle.std.proofs.Common.{◌≡◌, ℕ, true, List, Option, Some, None, refl}
use Rattle.std.specs.Prelude.{IfSome, is_none}
use Rattle.jiff_core.specs.declared.civil.date.Date.{Date}
use Rattle.office_mail.specs.Runs.{latest_day, orders_to}
use Rattle.office_core_facts.specs.OfficeState.{OfficeState}
use Rattle.office_core_outcome.specs.Proposal.{IsProposed}
use Rattle.office_core_outcome.specs.Trial.{trial_date}
use Rattle.office_core_outcome.specs.declared.TrialOptions.{TrialOptions}
use Rattle.office_core_outcome.specs.declared.proposal.Proposal.{Proposal}
use Rattle.office_http.specs.Serve.{IsProposedFor}

no_date : (o : Option Date) → true ≡ is_none o → o ≡ None
no_date None e = refl
no_date (Some date) e = absurd (cc (e))

pub proposed_for : (s : OfficeState) (terms : TrialOptions) (sources : List (List ℕ)) (proposal : Option Proposal) → IfSome proposal (IsProposed s.setup s.kept s.finished terms sources)
    → is_none proposal ≡ is_none (trial_date (latest_day (orders_to s.setup s.kept s.finished)) terms.day) → IsProposedFor s terms sources proposal
proposed_for s terms sources None is dated = no_date (trial_date (latest_day (orders_to s.setup s.kept s.finished)) terms.day) dated
proposed_for s terms sources (Some proposal) is dated = is
