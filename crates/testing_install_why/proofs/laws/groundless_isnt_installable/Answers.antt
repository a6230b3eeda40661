use Rattle.testing_install_why.proofs.Taking.{groundless_out}
use Rattle.testing_install_why.proofs.laws.groundless_isnt_installable.Goals as goal

pub returns : goal.returns
returns c = groundless_out
