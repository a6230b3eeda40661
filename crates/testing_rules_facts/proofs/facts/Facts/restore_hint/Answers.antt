use Rattle.std.proofs.Common.{◌∙◌, ap, sym, subst}
use Rattle.testing_rules_model.specs.WithMessage.{with_hint}
use Rattle.testing_rules_facts.specs.steps.HintOrder.{AreHintsByNumber}
use Rattle.testing_rules_facts.proofs.Saying.{hints_order}
use Rattle.testing_rules_facts.proofs.facts.Facts.restore_hint.Goals as goal

pub invariant_of-self-in-Some : goal.invariant_of-self-in-Some
invariant_of-self-in-Some c = (
  c.self.invariant.0,
  c.self.invariant.1,
  c.self.invariant.2,
  subst AreHintsByNumber (sym (c.put_hint.ensures ∙ ap (with_hint c.in-Some.hint) c.in_ok-reserve.ensures.items)) (hints_order c.in-Some.hint c.self.inside.hints.items c.self.invariant.3),
  c.self.invariant.4,
)
