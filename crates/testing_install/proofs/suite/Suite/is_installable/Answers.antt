use Rattle.std.proofs.Common.{◌≡◌, true, subst}
use Rattle.std.specs.Prelude.{◌↔◌}
use Rattle.testing_install.proofs.SuiteStates.{right_exact}
use Rattle.testing_install.specs.Among.{IsInstallableAmong}
use Rattle.testing_install.specs.Closed.{marked}
use Rattle.testing_install.specs.Rows.{shared}
use Rattle.testing_install.specs.Suite.{SuiteState}
use Rattle.testing_install.proofs.suite.Suite.is_installable.Goals as goal

pub returns : goal.returns
returns c = subst (λ (s : SuiteState). (c.is_marked.result ≡ true) ↔ IsInstallableAmong s.rows (marked s.there) c.args.place) c.self.view_is (rw c.is_marked.ensures (right_exact (shared c.self.inside.graph.rows.items) _ _ c.self.invariant.suite.right c.args.place))
