use Rattle.std.proofs.Common.{◌∙◌, ap, sym, subst}
use Rattle.testing_rules_model.specs.Boxed.{unboxed}
use Rattle.testing_rules_model.specs.WithMessage.{with_greatest}
use Rattle.testing_rules_model.specs.steps.FactOrder.{AreDropsByPair}
use Rattle.testing_rules_facts.proofs.KeySlots.{drops_by_pair-drop}
use Rattle.testing_rules_facts.proofs.facts.Facts.restore_drop.Goals as goal

pub invariant_of-self-in-Some : goal.invariant_of-self-in-Some
invariant_of-self-in-Some c = (
  record {
    by_source = c.self.invariant.0.by_source;
    by_pair = c.self.invariant.0.by_pair;
    drops_by_pair = subst AreDropsByPair (sym (c.put_drop.ensures.items ∙ ap (λ ds. with_greatest c.in_ok-boxed.boxed.value (unboxed ds)) c.in_ok-reserve.ensures.items)) (drops_by_pair-drop c.in_ok-boxed.boxed.value (unboxed c.self.inside.drops.items) c.self.invariant.0.drops_by_pair);
    by_number = c.self.invariant.0.by_number;
  },
  c.self.invariant.1,
  c.self.invariant.2,
  c.self.invariant.3,
  c.self.invariant.4,
)
