use Rattle.std.proofs.Common.{rules}
use Rattle.testing_rules_excuses.proofs.reasons.affects.Goals as goal

pub returns-then-is_found : goal.returns-then-is_found
returns-then-is_found c = search rules
