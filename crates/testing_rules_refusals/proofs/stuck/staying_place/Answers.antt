use Rattle.std.proofs.Common.{◌<◌, length, arith}
use Rattle.testing_rules_model.specs.JudgedRows.{row_of}
use Rattle.testing_rules_refusals.proofs.Sole.{lent_at}
use Rattle.testing_rules_refusals.proofs.stuck.staying_place.Goals as goal

pub returns-then-is_staying : goal.returns-then-is_staying
returns-then-is_staying c =
    let rows = c.args.rows.now in
    let n = c.loop-place.place in
    let row = c.index-rows-place.result in
    let below : n < length rows = omega arith in
    record {
      row = row_of row;
      is = record {
        stands = lent_at rows n row below c.index-rows-place.is;
        named = c.is_staying.ensures.name c.if-is_staying.true;
        watched = c.is_staying.ensures.watched c.if-is_staying.true;
      };
      worked = c.is_staying.ensures.worked c.if-is_staying.true;
      own = c.is_staying.ensures.own c.if-is_staying.true;
      key = c.is_staying.ensures.key c.if-is_staying.true;
    }
