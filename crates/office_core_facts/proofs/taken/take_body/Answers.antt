use Rattle.office_core_facts.proofs.TakenFacts.{took_nothing}
use Rattle.office_core_facts.proofs.taken.take_body.Goals as goal

pub returns-in-Item : goal.returns-in-Item
returns-in-Item c = rw c.in-Item.is c.take_item.ensures

pub returns-in-Run : goal.returns-in-Run
returns-in-Run c = rw c.in-Run.is (took_nothing c.args.facts.now)
