use Rattle.std.proofs.Common.{◌<◌, List, length, take, arith}
use Rattle.std.proofs.lemmas.List.{take_more}
use Rattle.testing_rules_model.specs.declared.fact_row.FactRow.{FactRow}
use Rattle.office_core_facts.proofs.RestoringFacts.{back_more}
use Rattle.office_core_facts.proofs.restored.put_facts.Goals as goal

pub rows-preserved : goal.rows-preserved
rows-preserved c =
    let so = c.rows.invariant in
    let rows : List FactRow = c.args.rows.now in
    let place = c.rows.place in
    let low : place < length rows = omega (arith, c.rows-test.true, c.rows.auto.place-end, c.requires.within) in
    record {
      from = omega (arith, so.from);
      back = λ s first items was.
          back_more s (take place rows) _ first c.rows.facts c.restore.new.self _ c.args.item.now (take_more rows place _ low) c.in_ok-restore.ensures.ok
          (items place _ so.from (omega (arith, c.rows-test.true, c.rows.auto.place-end))) (so.back s first items was);
    }
