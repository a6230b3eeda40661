use Rattle.std.proofs.Common.{◌≡◌, ◌-◌}
use Rattle.std.specs.Io.KnownBytes.{Consumes}
use Rattle.office_mail.specs.steps.Line.{spelled}
use Rattle.office_mail.specs.steps.BagReads.{GoesOn}
use Rattle.office_mail.proofs.bag.Bag.header.Given as goal

abbrev pub invariant-loop-byte : goal.invariant-loop-byte
invariant-loop-byte g l = record {
  line : Consumes l.fn.self.left l.self.left (spelled l.line.place l.line.value);
  clean : l.self.failures ≡ l.fn.self.failures;
  goes_on : GoesOn l.fn.self l.self;
}

abbrev pub decreases-loop-byte : goal.decreases-loop-byte
decreases-loop-byte g l = 15 - l.line.place
