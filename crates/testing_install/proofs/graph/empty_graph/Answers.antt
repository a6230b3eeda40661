use Rattle.testing_install.proofs.Sharing.{graph_none}
use Rattle.testing_install.proofs.graph.empty_graph.Goals as goal

pub returns-clause-graph : goal.returns-clause-graph
returns-clause-graph c = graph_none _ _ c.new-2.ensures c.new-3.ensures
