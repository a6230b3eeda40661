use Rattle.office_core.proofs.HistoryFacts.{agree, by_rules_all, follow_stay, settled_all}
use Rattle.office_core.proofs.laws.headline.Goals as goal

pub returns-clause-rules : goal.returns-clause-rules
returns-clause-rules c = by_rules_all

pub returns-clause-order : goal.returns-clause-order
returns-clause-order c = agree

pub returns-clause-settled : goal.returns-clause-settled
returns-clause-settled c = settled_all

pub returns-clause-only : goal.returns-clause-only
returns-clause-only c = follow_stay
