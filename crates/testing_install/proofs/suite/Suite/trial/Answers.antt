use Rattle.std.proofs.Common.{ℕ, subst}
use Rattle.std.specs.Prelude.{◌↔◌, IfOk, Contains}
use Rattle.testing_install.specs.Among.{IsLost, after_change}
use Rattle.testing_install.specs.Closed.{marked}
use Rattle.testing_install.specs.Suite.{SuiteState}
use Rattle.testing_install.proofs.suite.Suite.trial.Goals as goal

pub returns-clause-lost : goal.returns-clause-lost
returns-clause-lost c = subst (λ (s : SuiteState). IfOk c.try_change-lost.result (λ lost. (k : ℕ) → Contains lost.items k ↔ IsLost s.rows (marked s.there) (marked (after_change c.args.leaving.now c.args.coming.now s.there)) k)) c.self.view_is c.try_change-lost.ensures.lost
