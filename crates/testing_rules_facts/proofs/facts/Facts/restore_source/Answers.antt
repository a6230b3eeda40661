use Rattle.std.proofs.Common.{◌∙◌, ap, sym, subst}
use Rattle.testing_rules_model.specs.WithMessage.{with_upload}
use Rattle.testing_rules_model.specs.Boxed.{unboxed}
use Rattle.testing_rules_model.specs.FactOrder.{AreBySource}
use Rattle.testing_rules_facts.proofs.KeySlots.{by_source-upload}
use Rattle.testing_rules_facts.proofs.facts.Facts.restore_source.Goals as goal

pub invariant_of-self-in-Some : goal.invariant_of-self-in-Some
invariant_of-self-in-Some c = (
  record {
    by_source = subst AreBySource (sym (c.put_upload.ensures.items ∙ ap (λ us. with_upload c.in_ok-boxed.boxed.value (unboxed us)) c.in_ok-reserve.ensures.items)) (by_source-upload c.in_ok-boxed.boxed.value (unboxed c.self.inside.sources.items) c.self.invariant.0.by_source);
    by_pair = c.self.invariant.0.by_pair;
    drops_by_pair = c.self.invariant.0.drops_by_pair;
    by_number = c.self.invariant.0.by_number;
  },
  c.self.invariant.1,
  c.self.invariant.2,
  c.self.invariant.3,
  c.self.invariant.4,
)
