use Rattle.std.proofs.Common.{sym, ap, subst, ◌∙◌}
use Rattle.testing_rules_model.specs.InOrder.{AreByKey}
use Rattle.testing_rules_model.specs.JudgedRows.{lent}
use Rattle.testing_rules_moves.proofs.breaks.broken_by_move_of_held.Goals as goal

pub broken_by_move_anew-requires-clause-order : goal.broken_by_move_anew-requires-clause-order
broken_by_move_anew-requires-clause-order c = subst AreByKey (sym (ap lent c.deref.ensures.value ∙ c.in_ok-list.ensures)) c.requires.by_key
