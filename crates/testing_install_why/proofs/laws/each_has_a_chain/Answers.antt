use Rattle.testing_install_why.proofs.Following.{followed}
use Rattle.testing_install_why.proofs.laws.each_has_a_chain.Goals as goal

pub returns : goal.returns
returns c = followed
