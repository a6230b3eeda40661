use Rattle.std.proofs.Common.{sym, ap, subst, ◌∙◌}
use Rattle.testing_rules_model.specs.InOrder.{AreByKey}
use Rattle.testing_rules_model.specs.JudgedRows.{lent}
use Rattle.testing_rules_suites.proofs.Showing.{present_rows-by_key}
use Rattle.testing_rules_moves.proofs.breaks.broken_by_move_of_standing.Goals as goal

pub broken_by_move_anew-requires-clause-order : goal.broken_by_move_anew-requires-clause-order
broken_by_move_anew-requires-clause-order c = subst AreByKey (sym (ap lent c.deref.ensures.value ∙ c.in_ok-rows.ensures)) (present_rows-by_key c.args.suites.now)
