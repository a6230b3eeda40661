use Rattle.office_http_requests.proofs.ForeignFacts.{unforeign_asks}
use Rattle.office_http_requests.proofs.RouteFacts.{newer_stay, others_stay, later_stay, waiting_told, runs_told, kept_told, try_told, hints_told, unstable_told, propose_told, lint_told, breaks_told, misaddressed}
use Rattle.office_http_requests.proofs.laws.old_requests_stay.Goals as goal

pub returns-clause-others : goal.returns-clause-others
returns-clause-others c = others_stay

pub returns-clause-waiting : goal.returns-clause-waiting
returns-clause-waiting c = waiting_told

pub returns-clause-runs : goal.returns-clause-runs
returns-clause-runs c = runs_told

pub returns-clause-kept : goal.returns-clause-kept
returns-clause-kept c = kept_told

pub returns-clause-later : goal.returns-clause-later
returns-clause-later c = later_stay

pub returns-clause-hints : goal.returns-clause-hints
returns-clause-hints c = try_told

pub returns-clause-newer : goal.returns-clause-newer
returns-clause-newer c = newer_stay

pub returns-clause-in_force : goal.returns-clause-in_force
returns-clause-in_force c = hints_told

pub returns-clause-unstable : goal.returns-clause-unstable
returns-clause-unstable c = unstable_told

pub returns-clause-proposals : goal.returns-clause-proposals
returns-clause-proposals c = propose_told

pub returns-clause-looks : goal.returns-clause-looks
returns-clause-looks c = lint_told

pub returns-clause-breaks : goal.returns-clause-breaks
returns-clause-breaks c = breaks_told

pub returns-clause-hostless : goal.returns-clause-hostless
returns-clause-hostless c = misaddressed

pub returns-clause-unforeign : goal.returns-clause-unforeign
returns-clause-unforeign c = unforeign_asks
