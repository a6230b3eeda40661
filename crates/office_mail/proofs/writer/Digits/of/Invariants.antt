use Rattle.std.proofs.Common.{◌≡◌, ◌+◌, ◌≤◌, ◌++◌, length, drop, decimal}
use Rattle.office_mail.proofs.writer.Digits.of.Given as goal

abbrev pub invariant-loop-rest : goal.invariant-loop-rest
invariant-loop-rest l = record {
  size : length l.bytes ≡ 20;
  start : l.start ≤ 19;
  few : length (decimal l.rest) ≤ l.start + 1;
  digits : decimal l.rest ++ drop (l.start + 1) l.bytes ≡ decimal l.fn.number;
}

abbrev pub decreases-loop-rest : goal.decreases-loop-rest
decreases-loop-rest l = l.start
