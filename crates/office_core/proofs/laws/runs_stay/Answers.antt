use Rattle.office_core.proofs.LawFacts.{runs_stand}
use Rattle.office_core_outcome.proofs.OutcomeFacts.{outcome_of-later}
use Rattle.office_core.proofs.OfficeFacts.{reports_to-later}
use Rattle.office_core.proofs.laws.runs_stay.Goals as goal

pub returns-clause-outcome : goal.returns-clause-outcome
returns-clause-outcome c = outcome_of-later

pub returns-clause-reports : goal.returns-clause-reports
returns-clause-reports c = reports_to-later

pub returns-clause-office : goal.returns-clause-office
returns-clause-office c = runs_stand
