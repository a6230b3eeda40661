use Rattle.std.proofs.Common.{◌∙◌, ap, sym}
use Rattle.std.specs.Ordering.{is_lt}
use Rattle.testing_rules_model.specs.JudgedRows.{row_of}
use Rattle.testing_rules_model.specs.Moves.{row_cmp, row_key}
use Rattle.testing_rules_model.specs.declared.suite.RowIn.{RowIn}
use Rattle.testing_rules_items.proofs.Mapped.{mapped-last}
use Rattle.testing_rules_suites.proofs.lent_rows.is_behind.Goals as goal

pub returns-in-Some : goal.returns-in-Some
returns-in-Some c = λ below.
    let row = row_of c.args.row.now in
    let at = sym c.in-Some.ensures.value in
    mapped-last row_of (λ (r : RowIn). row_cmp (row_key r) (row_key row)) c.args.rows.now c.in-Some.last.now at (sym (ap is_lt c.order_rows.ensures) ∙ sym c.is_lt.ensures ∙ below)
