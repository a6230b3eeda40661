use Rattle.std.proofs.Common.{rules}
use Rattle.testing_install.proofs.state.State.new.Goals as goal

pub returns : goal.returns
returns c = search rules
