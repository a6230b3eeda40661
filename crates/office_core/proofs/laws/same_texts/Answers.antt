use Rattle.office_core.proofs.LawFacts.{each_report, same_office, settled_office}
use Rattle.office_core.proofs.laws.same_texts.Goals as goal

pub returns-clause-each : goal.returns-clause-each
returns-clause-each c = each_report

pub returns-clause-same : goal.returns-clause-same
returns-clause-same c = same_office

pub returns-clause-settled : goal.returns-clause-settled
returns-clause-settled c = settled_office
