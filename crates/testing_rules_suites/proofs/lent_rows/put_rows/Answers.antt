use Rattle.std.proofs.Common.{arith, ◌∙◌, sym, ap, ◌<◌, length, List}
use Rattle.std.specs.List.{slice_get}
use Rattle.testing_rules_model.specs.JudgedRows.{lent, row_of}
use Rattle.testing_rules_model.specs.Moves.{put_row}
use Rattle.testing_rules_model.specs.declared.suite.RowIn.{RowIn}
use Rattle.testing_rules_items.proofs.Grouping.{put-more}
use Rattle.testing_rules_suites.proofs.lent_rows.put_rows.Goals as goal

pub loop-place-preserved : goal.loop-place-preserved
loop-place-preserved c =
    let pool = c.args.pool.now in
    let places = c.args.places.now in
    let i = c.loop-place.place-index in
    let below : i < length places = omega arith in
    let row = row_of c.row-row.result in
    let put_in : List RowIn → RowIn → List RowIn = λ xs r. put_row r xs in
    record {
      so_far = c.in_ok-put_row.ensures.ok ∙ ap (put_row row) c.loop-place.invariant.so_far ∙ sym (put-more (slice_get pool) places i 0 below put_in (lent c.args.rows.now.items) row c.row-row.ensures);
      ordered = c.in_ok-put_row.ensures.ordered;
    }
