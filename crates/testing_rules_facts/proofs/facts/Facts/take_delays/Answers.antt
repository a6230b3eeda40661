use Rattle.std.proofs.Common.{arith}
use Rattle.testing_rules_facts.proofs.facts.Facts.take_delays.Goals as goal

pub invariant_of-self-2 : goal.invariant_of-self-2
invariant_of-self-2 c = (
  c.self.invariant.0,
  omega (arith, c.note.ensures.len_left, c.note.ensures.capacity_left, c.in_ok-reserve.ensures.room_left, c.len.ensures),
  c.self.invariant.2,
  c.self.invariant.3,
  c.self.invariant.4,
)
