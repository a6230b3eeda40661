use Rattle.std.proofs.Common.{rules}
use Rattle.testing_rules_facts.proofs.facts.Facts.changes.Goals as goal

pub returns : goal.returns
returns c = search rules
