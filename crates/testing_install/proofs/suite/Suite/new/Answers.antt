use Rattle.std.proofs.Common.{ap}
use Rattle.testing_install.proofs.SuiteStates.{suite_empty}
use Rattle.testing_install.proofs.Trying.{ready_begun}
use Rattle.testing_install.specs.Rows.{shared}
use Rattle.testing_install.proofs.suite.Suite.new.Goals as goal

pub invariant_of-result : goal.invariant_of-result
invariant_of-result c =
    let none = c.nothing_tried.ensures in
    ready_begun _ _ _ _ _ _ (suite_empty _ _ _ _ _ (ap (λ rows. shared rows) c.empty_graph.ensures.rows) c.empty.ensures c.empty-2.ensures c.empty_graph.ensures.graph) none.leaving none.coming none.falling none.rising
