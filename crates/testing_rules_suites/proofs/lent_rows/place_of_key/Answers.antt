use Rattle.std.proofs.Common.{rules, of_calls}
use Rattle.std.proofs.lemmas.Fn.{always_returns_same}
use Rattle.testing_rules_model.specs.JudgedRows.{row_of}
use Rattle.testing_rules_model.specs.Moves.{row_cmp, row_key}
use Rattle.testing_rules_model.specs.declared.suite.LentRow.{LentRow}
use Rattle.testing_rules_model.specs.declared.suite.RowIn.{RowIn}
use Rattle.testing_rules_items.proofs.Mapped.{mapped-bound, mapped-found}
use Rattle.testing_rules_suites.proofs.lent_rows.place_of_key.Goals as goal

pub returns-clause-bound : goal.returns-clause-bound
returns-clause-bound c = mapped-bound row_of c.args.rows.now c.binary_search_by.result c.binary_search_by.ensures.bound

pub returns-clause-found : goal.returns-clause-found
returns-clause-found c =
    let row = row_of c.args.row.now in
    mapped-found row_of (λ (r : RowIn). row_cmp (row_key r) (row_key row)) c.args.rows.now c.binary_search_by.result c.binary_search_by.ensures.bound
    (c.binary_search_by.ensures.position (λ (r : LentRow). row_cmp (row_key (row_of r)) (row_key row)) (always_returns_same _ _ _ (λ a r f k. search (rules, of_calls))))
