use Rattle.office_core.proofs.HistoryFacts.{came_leads, came_settled, follow_looked, follow_twice}
use Rattle.office_core.proofs.laws.steps_follow.Goals as goal

pub returns-clause-twice : goal.returns-clause-twice
returns-clause-twice c = follow_twice

pub returns-clause-looked : goal.returns-clause-looked
returns-clause-looked c = follow_looked

pub returns-clause-came : goal.returns-clause-came
returns-clause-came c = came_leads

pub returns-clause-settled : goal.returns-clause-settled
returns-clause-settled c = came_settled
