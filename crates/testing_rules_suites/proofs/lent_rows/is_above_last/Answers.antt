use Rattle.std.proofs.Common.{◌∙◌, ap, sym, subst, length, Err}
use Rattle.std.specs.List.Sorted.{IsBinarySearchResult}
use Rattle.std.specs.Ordering.{is_lt}
use Rattle.std.proofs.lemmas.List.{map-id}
use Rattle.testing_rules_model.specs.JudgedRows.{row_of}
use Rattle.testing_rules_model.specs.Moves.{row_cmp, row_key}
use Rattle.testing_rules_model.specs.declared.suite.RowIn.{RowIn}
use Rattle.testing_rules_items.proofs.Mapped.{mapped-last}
use Rattle.testing_rules_suites.proofs.lent_rows.is_above_last.Goals as goal

pub returns-in-Some : goal.returns-in-Some
returns-in-Some c = λ below.
    let row = row_of c.args.row.now in
    let rows = c.args.rows.now in
    let order = λ (r : RowIn). row_cmp (row_key r) (row_key row) in
    let last = c.in-Some.last.now in
    let lower = sym (ap is_lt c.order_rows.ensures) ∙ sym c.is_lt.ensures ∙ below in
    let is = ap (λ r. is_lt (order r)) (sym c.lend.ensures) ∙ lower in
    subst (λ rs. IsBinarySearchResult order rs (Err (length rs))) (map-id rows) (mapped-last (λ r. r) order rows last (sym c.in-Some.ensures.value) is)
