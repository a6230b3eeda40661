use Rattle.std.proofs.Common.{rules}
use Rattle.testing_install.proofs.change.was_right.Goals as goal

pub returns-then-was_marked : goal.returns-then-was_marked
returns-then-was_marked c = search rules

pub returns-else-was_marked : goal.returns-else-was_marked
returns-else-was_marked c = search rules
