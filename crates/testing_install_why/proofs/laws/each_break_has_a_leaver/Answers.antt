use Rattle.testing_install_why.proofs.Following.{left_by}
use Rattle.testing_install_why.proofs.laws.each_break_has_a_leaver.Goals as goal

pub returns : goal.returns
returns c = left_by
