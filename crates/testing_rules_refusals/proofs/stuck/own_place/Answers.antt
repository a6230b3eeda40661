use Rattle.std.proofs.Common.{◌<◌, length, arith}
use Rattle.testing_rules_model.specs.JudgedRows.{row_of}
use Rattle.testing_rules_refusals.proofs.Sole.{lent_at}
use Rattle.testing_rules_refusals.proofs.stuck.own_place.Goals as goal

pub returns-then-is_own : goal.returns-then-is_own
returns-then-is_own c =
    let rows = c.args.rows.now in
    let n = c.loop-place.place in
    let row = c.index-rows-place.result in
    let below : n < length rows = omega arith in
    record {
      row = row_of row;
      is = record {
        stands = lent_at rows n row below c.index-rows-place.is;
        named = c.is_own.ensures.name c.if-is_own.true;
        watched = c.is_own.ensures.watched c.if-is_own.true;
      };
      own = c.is_own.ensures.own c.if-is_own.true;
    }
