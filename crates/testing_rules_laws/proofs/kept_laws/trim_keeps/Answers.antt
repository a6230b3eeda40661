use Rattle.testing_rules_laws.proofs.BesideTesting.{trim_keeps}
use Rattle.testing_rules_laws.proofs.kept_laws.trim_keeps.Goals as goal

pub returns : goal.returns
returns c = trim_keeps
