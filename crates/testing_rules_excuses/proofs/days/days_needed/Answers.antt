use Rattle.std.proofs.Common.{rules}
use Rattle.testing_rules_excuses.proofs.days.days_needed.Goals as goal

pub returns-in-None : goal.returns-in-None
returns-in-None c = search rules
