use Rattle.std.proofs.Common.{◌∙◌, sym, ap, subst}
use Rattle.testing_rules_model.specs.InOrder.{AreByKey}
use Rattle.testing_rules_model.specs.JudgedRows.{lent}
use Rattle.office_core_breaks.proofs.told.broken_there.Goals as goal

pub broken_over-requires-clause-order : goal.broken_over-requires-clause-order
broken_over-requires-clause-order c = subst AreByKey (sym (ap lent c.deref.ensures.value ∙ c.in_ok-old.ensures)) c.rows-there.ensures.ordered

pub broken_over-requires-clause-rows : goal.broken_over-requires-clause-rows
broken_over-requires-clause-rows c = ap lent c.deref.ensures.value ∙ c.in_ok-old.ensures ∙ c.rows-there.ensures.entries
