use Rattle.testing_rules_model.specs.Moves.{row_key}
use Rattle.testing_rules_model.proofs.KeyPlaces.{place-for}
use Rattle.testing_rules_suites.proofs.Lost.{row_order}
use Rattle.testing_rules_suites.proofs.suite.place_of_row.Goals as goal

pub returns : goal.returns
returns c = place-for row_key row_order c.args.row.now c.args.rows.now c.place_of_key.result c.requires c.place_of_key.ensures.bound c.place_of_key.ensures.found
