use Rattle.std.proofs.Common.{◌<◌, ◌∙◌, length, sym, arith}
use Rattle.std.proofs.lemmas.Slice.Eq.{bytes_eq-Decides}
use Rattle.testing_rules_model.specs.JudgedRows.{row_of}
use Rattle.testing_rules_refusals.proofs.Sole.{lent_at}
use Rattle.testing_rules_refusals.proofs.shown.place_of.Goals as goal

pub returns-then-is_of_name : goal.returns-then-is_of_name
returns-then-is_of_name c =
    let rows = c.args.rows.now in
    let n = c.loop-place.place in
    let row = c.index-rows-place.result in
    let below : n < length rows = omega arith in
    record {
      row = row_of row;
      stands = lent_at rows n row below c.index-rows-place.is;
      named = (bytes_eq-Decides (row_of row).binary.name c.args.name.now).0 (sym c.is_of_name.ensures ∙ c.if-is_of_name.true);
    }
