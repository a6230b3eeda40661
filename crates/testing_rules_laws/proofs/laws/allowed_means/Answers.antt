use Rattle.testing_rules_laws.proofs.Allowing.{allowed_rows, rows_allowed}
use Rattle.testing_rules_laws.proofs.laws.allowed_means.Goals as goal

pub returns : goal.returns
returns c = λ archs old new group. (allowed_rows archs old new group, rows_allowed archs old new group)
