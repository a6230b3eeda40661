use Rattle.std.proofs.Common.{rules, of_calls}
use Rattle.std.proofs.lemmas.Fn.{always_returns_same}
use Rattle.testing_rules_model.specs.JudgedRows.{row_of}
use Rattle.testing_rules_model.specs.Moves.{row_cmp, row_key}
use Rattle.testing_rules_model.specs.declared.suite.RowIn.{RowIn}
use Rattle.office_core_why.proofs.later.place_of_row.Goals as goal

pub returns-clause-found : goal.returns-clause-found
returns-clause-found c =
    c.binary_search_by.ensures.position (λ (r : RowIn). row_cmp (row_key r) (row_key (row_of c.args.row.now))) (always_returns_same _ _ _ (λ a r f k. search (rules, of_calls)))
