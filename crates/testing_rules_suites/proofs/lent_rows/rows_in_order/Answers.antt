use Rattle.std.proofs.Common.{sym, subst}
use Rattle.testing_rules_suites.specs.steps.AfterMoves.{rows_at}
use Rattle.testing_rules_model.specs.InOrder.{AreByKey}
use Rattle.testing_rules_model.specs.JudgedRows.{lent}
use Rattle.testing_rules_model.specs.SameMessages.{SameElements}
use Rattle.testing_rules_suites.proofs.OneSort.{puts-in_order}
use Rattle.testing_rules_suites.proofs.Showing.{by_key-none}
use Rattle.testing_rules_suites.proofs.lent_rows.rows_in_order.Goals as goal

pub returns-then-are_by_key : goal.returns-then-are_by_key
returns-then-are_by_key c =
    let xs = rows_at c.args.pool.now c.args.places.now in
    let ys = lent c.sort_rows.new.rows.items in
    let sorted = subst (λ rs. AreByKey (lent rs)) c.deref.ensures.value (c.are_by_key.ensures c.if-are_by_key.true) in
    puts-in_order xs ys sorted (subst (λ rs. SameElements rs ys) c.in_ok-rows.ensures c.sort_rows.ensures)

pub put_rows-requires-clause-order : goal.put_rows-requires-clause-order
put_rows-requires-clause-order c = subst (λ rs. AreByKey (lent rs)) (sym c.clear.ensures.items) by_key-none
