use Rattle.std.proofs.Common.{◌∙◌, length, sym, arith}
use Rattle.std.proofs.lemmas.List.{drop_all, take_all}
use Rattle.office_core_breaks.proofs.lines.told_count.Goals as goal

pub returns-then-count-le-TOLD-clause-told : goal.returns-then-count-le-TOLD-clause-told
returns-then-count-le-TOLD-clause-told c =
    let rows = c.args.rows.now in
    take_all (length rows) rows (omega arith) ∙ sym (take_all 100 rows (omega (arith, c.if-count-le-TOLD.true)))

pub returns-then-count-le-TOLD-clause-untold : goal.returns-then-count-le-TOLD-clause-untold
returns-then-count-le-TOLD-clause-untold c =
    let rows = c.args.rows.now in
    drop_all (length rows) rows (omega arith) ∙ sym (drop_all 100 rows (omega (arith, c.if-count-le-TOLD.true)))
