use Rattle.office_core_orders.proofs.WaitingFacts.{lacks_tell, one_list}
use Rattle.office_core.proofs.laws.lacks_say_why.Goals as goal

pub returns-clause-why : goal.returns-clause-why
returns-clause-why c = lacks_tell

pub returns-clause-one : goal.returns-clause-one
returns-clause-one c = one_list
