use Rattle.std.proofs.Common.{◌∙◌, ◌++◌, refl, ap}
use Rattle.testing_rules_model.specs.declared.fact_row.FactRow.{FactRow}
use Rattle.std.specs.Prelude.{List}
use Rattle.office_store_keeper.specs.steps.FactSet.{is_among}
use Rattle.office_store_keeper.specs.steps.MemoryState.{rows_left}
use Rattle.office_store_keeper.proofs.FactSets.{rows_after-is}
use Rattle.office_store_keeper.proofs.fact_rows.rows_after.Goals as goal

pub returns : goal.returns
returns c =
    let left : List FactRow = rows_left c.deref.result.now c.args.rows.now in
    rows_after-is c.args.changes.now c.args.rows.now c.deref.result.now left c.extend_from_slice.new.self.items
    (λ r. ap (is_among r) c.deref.ensures.value ∙ c.in_ok-gone.ensures.same r ∙ ap (is_among r) c.as_slice.ensures) refl
    (c.in_ok-extend_from_slice.ensures.items ∙ ap (λ rs. c.put_remaining.new.left.items ++ rs) c.as_slice-put.ensures
    ∙ ap (λ rs. rs ++ c.args.changes.now.put) (c.in_ok-put_remaining.ensures ∙ ap (λ rs. rs ++ left) c.in_ok-new.ensures.items))
