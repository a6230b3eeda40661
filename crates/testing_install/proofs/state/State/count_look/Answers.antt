use Rattle.std.proofs.Common.{rules}
use Rattle.testing_install.proofs.state.State.count_look.Goals as goal

pub returns : goal.returns
returns c = search rules
