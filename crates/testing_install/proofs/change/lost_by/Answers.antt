use Rattle.std.proofs.Common.{◌∙◌}
use Rattle.testing_install.proofs.SuiteStates.{lost_exact}
use Rattle.testing_install.specs.Rows.{shared}
use Rattle.testing_install.proofs.change.lost_by.Goals as goal

pub returns-clause-lost : goal.returns-clause-lost
returns-clause-lost c = lost_exact (shared c.args.graph.now.rows.items) _ _ _ _ c.in_ok-fallen.fallen.items _ c.requires.right c.in_ok-fallen.ensures.changed _ _ _ (c.in_ok-fallen.ensures.there_kept ∙ c.requires.there) (c.in_ok-fallen.ensures.marks_kept ∙ c.requires.marks) (rw c.deref.ensures at c.in_ok-lost.ensures) c.in_ok-fallen.ensures.there
