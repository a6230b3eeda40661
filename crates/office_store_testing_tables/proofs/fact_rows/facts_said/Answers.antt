use Rattle.std.proofs.Common.{inr, [], ◌∷◌, map, sym, ap, ◌∙◌}
use Rattle.std.proofs.lemmas.List.{map-append}
use Rattle.office_store_testing_tables.specs.FactTables.{fact_entry, fact_in}
use Rattle.office_store_testing_tables.proofs.EntryLists.{read_more}
use Rattle.office_store_testing_tables.proofs.Passed.{passed, no_none}
use Rattle.office_store_testing_tables.proofs.fact_rows.facts_said.Goals as goal

pub rows-preserved : goal.rows-preserved
rows-preserved c = record {
  so_far = read_more fact_in c.args.rows.now c.rows.row-index c.row-item.result (fact_entry c.in_ok-fact.fact) (map fact_entry c.rows.facts.items) (map fact_entry c.push.new.self.items) c.rows-test.true c.row-item.is
      c.rows.invariant.so_far c.in_ok-fact.ensures.ok (ap (map fact_entry) c.in_ok-push.ensures.items ∙ map-append fact_entry c.rows.facts.items (c.in_ok-fact.fact ∷ []));
}

pub returns-in_err-fact-clause-bad : goal.returns-in_err-fact-clause-bad
returns-in_err-fact-clause-bad c bad reads =
    let each = reads c.row-item.result (c.rows.row-index, c.rows-test.true, sym c.row-item.is) in
    no_none (inr (c.in_err-fact.ensures.bad (passed c.from_residual.result c.in_err-fact.field-0.0 _ bad c.from_residual.ensures.1) each.0)) each.1
