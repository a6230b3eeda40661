use Rattle.std.proofs.Common.{◌∙◌, ap, sym, subst}
use Rattle.testing_rules_model.specs.WithMessage.{with_unhint}
use Rattle.testing_rules_facts.specs.steps.HintOrder.{AreUnhintsByNumber}
use Rattle.testing_rules_facts.proofs.Saying.{unhints_order}
use Rattle.testing_rules_facts.proofs.facts.Facts.restore_unhint.Goals as goal

pub invariant_of-self-in-Some : goal.invariant_of-self-in-Some
invariant_of-self-in-Some c = (
  c.self.invariant.0,
  c.self.invariant.1,
  c.self.invariant.2,
  c.self.invariant.3,
  subst AreUnhintsByNumber (sym (c.put_unhint.ensures ∙ ap (with_unhint c.in-Some.unhint) c.in_ok-reserve.ensures.items)) (unhints_order c.in-Some.unhint c.self.inside.unhints.items c.self.invariant.4),
)
