use Rattle.office_store_keeper.proofs.PartFacts.{next_none, next_other, next_here}
use Rattle.office_store_keeper.proofs.memory.next_of.Goals as goal

pub returns-in-None : goal.returns-in-None
returns-in-None c = next_none c.args.sender c.args.from c.args.mail.now c.range.result (c.range.ensures.in_range tt) c.in-None.ensures.steps.0

pub returns-then-place-sender : goal.returns-then-place-sender
returns-then-place-sender c =
    next_here c.args.sender c.args.from c.args.mail.now c.range.result (c.range.ensures.in_range tt) (c.in-Some.place.now, c.in-Some.field-0-1.now) c.next.new.self c.in-Some.ensures.steps c.if-place-sender.true

pub returns-else-place-sender : goal.returns-else-place-sender
returns-else-place-sender c =
    next_other c.args.sender c.args.from c.args.mail.now c.range.result (c.range.ensures.in_range tt) (c.in-Some.place.now, c.in-Some.field-0-1.now) c.next.new.self c.in-Some.ensures.steps c.if-place-sender.false
