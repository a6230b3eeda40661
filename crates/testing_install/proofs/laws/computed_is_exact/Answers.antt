use Rattle.testing_install.proofs.Choosing.{length-are, are_exact}
use Rattle.testing_install.proofs.laws.computed_is_exact.Goals as goal

pub returns-clause-length : goal.returns-clause-length
returns-clause-length c = length-are

pub returns-clause-exact : goal.returns-clause-exact
returns-clause-exact c = are_exact
