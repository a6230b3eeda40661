use Rattle.std.proofs.Common.{◌∙◌, ap, sym, subst}
use Rattle.testing_rules_model.specs.Boxed.{unboxed}
use Rattle.testing_rules_model.specs.WithMessage.{with_bug}
use Rattle.testing_rules_model.specs.steps.FactOrder.{AreByNumber}
use Rattle.testing_rules_facts.proofs.KeySlots.{by_number-bug}
use Rattle.testing_rules_facts.proofs.facts.Facts.restore_bug.Goals as goal

pub invariant_of-self-in-Some : goal.invariant_of-self-in-Some
invariant_of-self-in-Some c = (
  record {
    by_source = c.self.invariant.0.by_source;
    by_pair = c.self.invariant.0.by_pair;
    drops_by_pair = c.self.invariant.0.drops_by_pair;
    by_number = subst AreByNumber (sym (c.put_bug.ensures.items ∙ ap (λ bs. with_bug c.in_ok-boxed.boxed.value (unboxed bs)) c.in_ok-reserve.ensures.items)) (by_number-bug c.in_ok-boxed.boxed.value (unboxed c.self.inside.bugs.items) c.self.invariant.0.by_number);
  },
  c.self.invariant.1,
  c.self.invariant.2,
  c.self.invariant.3,
  c.self.invariant.4,
)
