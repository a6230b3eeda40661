use Rattle.std.proofs.Common.{arith, ◌∙◌, ap, sym, subst}
use Rattle.testing_rules_model.specs.WithMessage.{with_hint}
use Rattle.testing_rules_facts.specs.steps.HintOrder.{AreHintsByNumber}
use Rattle.testing_rules_facts.proofs.Saying.{hints_order}
use Rattle.testing_rules_facts.proofs.facts.Facts.take_hint.Goals as goal

pub invariant_of-self-2 : goal.invariant_of-self-2
invariant_of-self-2 c = (
  c.self.invariant.0,
  omega (arith, c.note.ensures.len_left, c.note.ensures.capacity_left, c.in_ok-reserve_with.ensures.room_left, c.len.ensures),
  c.self.invariant.2,
  subst AreHintsByNumber (sym (c.put_hint.ensures ∙ ap (with_hint c.args.hint) c.in_ok-reserve_with.ensures.items)) (hints_order c.args.hint c.self.inside.hints.items c.self.invariant.3),
  c.self.invariant.4,
)
