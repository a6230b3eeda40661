use Rattle.std.proofs.Common.{rules}
use Rattle.testing_rules_excuses.proofs.reasons.unblocks.Goals as goal

pub returns-in-Unblock : goal.returns-in-Unblock
returns-in-Unblock c = search rules
