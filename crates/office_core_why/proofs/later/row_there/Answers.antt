use Rattle.std.proofs.Common.{◌∙◌, List, Some, find, sym, ap}
use Rattle.std.specs.Ordering.{is_eq}
use Rattle.testing_rules_model.specs.JudgedRows.{row_of}
use Rattle.testing_rules_model.specs.Moves.{row_cmp, row_key}
use Rattle.testing_rules_model.specs.declared.suite.RowIn.{RowIn}
use Rattle.testing_rules_model.proofs.KeyOrder.{searchable}
use Rattle.testing_rules_suites.proofs.Lost.{row_order}
use Rattle.office_core_why.proofs.KeySearch.{find-tied, find-untied}
use Rattle.office_core_why.proofs.later.row_there.Goals as goal

pub returns-in-Ok : goal.returns-in-Ok
returns-in-Ok c =
    let k = row_key (row_of c.args.row.now) in
    let d = c.index-rows-place.result in
    ap Some c.index-rows-place.is
    ∙ sym (find-tied row_key row_order k c.rows-rows.result.now c.in-Ok.place d c.rows-rows.ensures.ordered c.in-Ok.ensures.bound (c.in-Ok.ensures.found d))
    ∙ ap (λ (rows : List RowIn). find (λ r. is_eq (row_cmp (row_key r) k)) rows) c.rows-rows.ensures.entries

pub returns-in-Err : goal.returns-in-Err
returns-in-Err c =
    let k = row_key (row_of c.args.row.now) in
    let rows = c.rows-rows.result.now in
    sym (find-untied row_key row_order k rows c.in-Err.field-0 (c.in-Err.ensures.found (searchable row_key row_order rows c.rows-rows.ensures.ordered k)))
    ∙ ap (λ (rows : List RowIn). find (λ r. is_eq (row_cmp (row_key r) k)) rows) c.rows-rows.ensures.entries
