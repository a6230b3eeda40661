use Rattle.std.proofs.Common.{rules, of_calls}
use Rattle.std.proofs.lemmas.Fn.{always_returns_same}
use Rattle.testing_rules_model.specs.declared.fact_row.FactRow.{FactRow}
use Rattle.testing_rules_model.specs.FactRows.{row_order}
use Rattle.office_store_keeper.proofs.fact_rows.place_near.Goals as goal

pub returns-clause-position : goal.returns-clause-position
returns-clause-position c =
    c.search_near.ensures.found (λ (y : FactRow). row_order y c.args.row.now) (always_returns_same _ _ _ (λ a r f k. search (rules, of_calls)))
