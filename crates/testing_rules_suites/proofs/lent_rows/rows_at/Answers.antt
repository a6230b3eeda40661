use Rattle.std.proofs.Common.{arith, ◌∙◌, sym, ap, ◌<◌, ◌++◌, ◌∷◌, [], length, ◌≤◌}
use Rattle.std.specs.List.{slice_get}
use Rattle.std.proofs.lemmas.List.{map-append, take_all}
use Rattle.testing_rules_model.specs.JudgedRows.{lent, row_of}
use Rattle.testing_rules_items.proofs.Grouping.{group-some}
use Rattle.testing_rules_suites.proofs.lent_rows.rows_at.Goals as goal

pub loop-place-preserved : goal.loop-place-preserved
loop-place-preserved c =
    let pool = c.args.pool.now in
    let places = c.args.places.now in
    let i = c.loop-place.place-index in
    let below : i < length places = omega arith in
    let new = c.row-row.result in
    let row = row_of new in
    ap lent c.in_ok-push.ensures.items ∙ map-append row_of c.loop-place.rows.items (new ∷ []) ∙ ap (λ rs. rs ++ row ∷ []) c.loop-place.invariant
    ∙ sym (group-some (slice_get pool) places i 0 below row c.row-row.ensures)

pub returns : goal.returns
returns c =
    let over : length c.args.places.now ≤ c.loop-place.place-index = omega arith in
    rw (take_all c.loop-place.place-index c.args.places.now over) at c.loop-place.invariant
