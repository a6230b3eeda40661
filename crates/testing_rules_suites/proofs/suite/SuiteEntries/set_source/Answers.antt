use Rattle.std.proofs.Common.{sym, subst}
use Rattle.testing_rules_model.specs.InOrder.{AreByName}
use Rattle.testing_rules_model.proofs.Ordered.{by_name-put}
use Rattle.testing_rules_suites.proofs.suite.SuiteEntries.set_source.Goals as goal

pub invariant_of-self-2 : goal.invariant_of-self-2
invariant_of-self-2 c =
    record {
      by_name = subst AreByName (sym c.in_ok-put_source.ensures.ok) (by_name-put c.args.source c.self.inside.sources.items c.self.invariant.by_name);
      by_key = c.self.invariant.by_key;
    }
