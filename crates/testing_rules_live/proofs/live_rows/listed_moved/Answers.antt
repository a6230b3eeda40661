use Rattle.std.proofs.Common.{sym, ap, subst, ◌∙◌}
use Rattle.testing_rules_model.specs.InOrder.{AreByKey}
use Rattle.testing_rules_model.specs.JudgedRows.{lent}
use Rattle.testing_rules_live.proofs.live_rows.listed_moved.Goals as goal

pub moved_rows-requires-clause-order : goal.moved_rows-requires-clause-order
moved_rows-requires-clause-order c = subst AreByKey (sym (ap lent c.deref.ensures.value ∙ c.in_ok-rows.ensures)) c.requires.by_key
