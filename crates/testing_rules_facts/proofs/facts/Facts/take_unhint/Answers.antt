use Rattle.std.proofs.Common.{arith, ◌∙◌, ap, sym, subst}
use Rattle.testing_rules_model.specs.WithMessage.{with_unhint}
use Rattle.testing_rules_facts.specs.steps.HintOrder.{AreUnhintsByNumber}
use Rattle.testing_rules_facts.proofs.Saying.{unhints_order}
use Rattle.testing_rules_facts.proofs.facts.Facts.take_unhint.Goals as goal

pub invariant_of-self-2 : goal.invariant_of-self-2
invariant_of-self-2 c = (
  c.self.invariant.0,
  omega (arith, c.note.ensures.len_left, c.note.ensures.capacity_left, c.in_ok-reserve_with.ensures.room_left, c.len.ensures),
  c.self.invariant.2,
  c.self.invariant.3,
  subst AreUnhintsByNumber (sym (c.put_unhint.ensures ∙ ap (with_unhint c.args.unhint) c.in_ok-reserve_with.ensures.items)) (unhints_order c.args.unhint c.self.inside.unhints.items c.self.invariant.4),
)
