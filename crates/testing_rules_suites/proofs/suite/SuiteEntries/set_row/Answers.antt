use Rattle.std.proofs.Common.{sym, subst}
use Rattle.testing_rules_model.specs.InOrder.{AreByKey}
use Rattle.testing_rules_model.proofs.Ordered.{by_key-put}
use Rattle.testing_rules_suites.proofs.suite.SuiteEntries.set_row.Goals as goal

pub invariant_of-self-2 : goal.invariant_of-self-2
invariant_of-self-2 c =
    record {
      by_name = c.self.invariant.by_name;
      by_key = subst AreByKey (sym c.in_ok-put_row.ensures.ok) (by_key-put c.args.row c.self.inside.rows.items c.self.invariant.by_key);
    }
