use Rattle.std.proofs.Common.{◌<◌, ◌≤◌, length, arith}
use Rattle.testing_rules_model.specs.JudgedRows.{lent, row_of}
use Rattle.testing_rules_refusals.proofs.Sole.{only_none, only_more, only_all, lent_at}
use Rattle.testing_rules_refusals.proofs.shown.is_only.Goals as goal

pub loop-place-init : goal.loop-place-init
loop-place-init c = only_none (lent c.args.rows.now) c.args.name.now c.args.only

pub loop-place-preserved : goal.loop-place-preserved
loop-place-preserved c =
    let rows = c.args.rows.now in
    let n = c.loop-place.place in
    let row = c.index-rows-place.result in
    let below : n < length rows = omega arith in
    only_more (lent rows) c.args.name.now c.args.only n (row_of row) (lent_at rows n row below c.index-rows-place.is) (c.is_another.ensures c.if-is_another.false) c.loop-place.invariant

pub returns : goal.returns
returns c = λ _.
    let over : length c.args.rows.now ≤ c.loop-place.place = omega arith in
    only_all (lent c.args.rows.now) c.args.name.now c.args.only c.loop-place.place (length c.args.rows.now) c.loop-place.invariant over
