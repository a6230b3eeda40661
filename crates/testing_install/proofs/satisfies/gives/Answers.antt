use Rattle.std.proofs.Common.{rules}
use Rattle.testing_install.proofs.satisfies.gives.Goals as goal

pub returns-in-Some-None : goal.returns-in-Some-None
returns-in-Some-None c = search rules
