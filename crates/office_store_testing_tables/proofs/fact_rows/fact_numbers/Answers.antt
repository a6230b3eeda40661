use Rattle.std.proofs.Common.{◌∙◌}
use Rattle.testing_rules_model.specs.declared.fact_row.FactRow.{FactRow}
use Rattle.office_store_testing_tables.proofs.FactReads.{fact_says, fact_stands}
use Rattle.office_store_testing_tables.proofs.fact_rows.fact_numbers.Goals as goal

pub returns-clause-ok : goal.returns-clause-ok
returns-clause-ok c stands =
    let fact : FactRow = record { kind = c.in_ok-kind.kind; sender = c.in_ok-sender.sender; number = c.in_ok-number.number; place = c.in_ok-place.place } in
    fact_says c.args.row.now c.in_ok-_rowid._rowid fact c.in_ok-_rowid.ensures.ok c.in_ok-kind.ensures.ok c.in_ok-sender.ensures.ok.0 c.in_ok-number.ensures.ok.0 c.in_ok-place.ensures.ok.0
    c.in_ok-sender.ensures.ok.1 c.in_ok-number.ensures.ok.1 c.in_ok-place.ensures.ok.1
    ∙ fact_stands fact stands
