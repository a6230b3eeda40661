use Rattle.std.proofs.Common.{◌≡◌}
use Rattle.office_mail.specs.steps.BagReads.{GoesOn, TakesBody}
use Rattle.office_mail.proofs.bag.Bag.body_by_bytes.Given as goal

abbrev pub invariant-loop-i : goal.invariant-loop-i
invariant-loop-i g l = record {
  body : TakesBody l.fn.self l.self l._i l.message.items;
  clean : l.self.failures ≡ l.fn.self.failures;
  goes_on : GoesOn l.fn.self l.self;
}
