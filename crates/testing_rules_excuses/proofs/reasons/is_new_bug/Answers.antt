use Rattle.std.proofs.Common.{rules}
use Rattle.testing_rules_excuses.proofs.reasons.is_new_bug.Goals as goal

pub returns-in-Some : goal.returns-in-Some
returns-in-Some c = search rules
