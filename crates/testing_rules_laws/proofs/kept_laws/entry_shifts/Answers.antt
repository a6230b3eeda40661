use Rattle.testing_rules_facts.proofs.Shifting.{entry_shifts}
use Rattle.testing_rules_laws.proofs.kept_laws.entry_shifts.Goals as goal

pub returns : goal.returns
returns c = entry_shifts
