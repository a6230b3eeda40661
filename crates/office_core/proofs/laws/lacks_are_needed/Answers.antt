use Rattle.office_core_orders.proofs.WaitingFacts.{lacks_come, order_comes}
use Rattle.office_core.proofs.laws.lacks_are_needed.Goals as goal

pub returns-clause-mail : goal.returns-clause-mail
returns-clause-mail c = lacks_come

pub returns-clause-order : goal.returns-clause-order
returns-clause-order c = order_comes
