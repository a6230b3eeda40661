use Rattle.std.proofs.Common.{arith, sym, subst}
use Rattle.testing_rules_model.specs.Boxed.{unboxed}
use Rattle.testing_rules_model.specs.FactOrder.{AreByPair}
use Rattle.testing_rules_model.specs.steps.WithMessage.{stands_beside}
use Rattle.testing_rules_facts.proofs.KeySlots.{by_pair-builds}
use Rattle.testing_rules_facts.proofs.facts.Facts.take_builds.Goals as goal

pub invariant_of-self-2 : goal.invariant_of-self-2
invariant_of-self-2 c = (
  record {
    by_source = c.self.invariant.0.by_source;
    by_pair = subst AreByPair (sym c.in_ok-put.ensures.ok) (by_pair-builds (stands_beside (unboxed c.deref.result.now)) c.args.builds.items c.self.inside.rows c.self.invariant.0.by_pair);
    drops_by_pair = c.self.invariant.0.drops_by_pair;
    by_number = c.self.invariant.0.by_number;
  },
  omega (arith, c.in_ok-put.ensures.len, c.in_ok-put.ensures.capacity, c.in_ok-reserve.ensures.room_left, c.len.ensures, c.len-2.ensures),
  c.self.invariant.2,
  c.self.invariant.3,
  c.self.invariant.4,
)
