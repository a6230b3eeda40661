use Rattle.std.proofs.Common.{sym, subst}
use Rattle.testing_rules_model.specs.FactOrder.{AreByPair}
use Rattle.testing_rules_facts.proofs.KeySlots.{by_pair-build}
use Rattle.testing_rules_facts.proofs.facts.Facts.restore_build.Goals as goal

pub invariant_of-self : goal.invariant_of-self
invariant_of-self c = (
  record {
    by_source = c.self.invariant.0.by_source;
    by_pair = subst AreByPair (sym c.in_ok-put_one.ensures.ok) (by_pair-build c.in-Some.build c.self.inside.rows c.self.invariant.0.by_pair);
    drops_by_pair = c.self.invariant.0.drops_by_pair;
    by_number = c.self.invariant.0.by_number;
  },
  c.self.invariant.1,
  c.self.invariant.2,
  c.self.invariant.3,
  c.self.invariant.4,
)
