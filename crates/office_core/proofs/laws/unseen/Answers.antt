use Rattle.office_core.proofs.UnseenFacts.{outcome_same, ready_same, reports_same}
use Rattle.office_core.proofs.laws.unseen.Goals as goal

pub returns-clause-ready : goal.returns-clause-ready
returns-clause-ready c = ready_same

pub returns-clause-outcome : goal.returns-clause-outcome
returns-clause-outcome c = outcome_same

pub returns-clause-reports : goal.returns-clause-reports
returns-clause-reports c = reports_same
