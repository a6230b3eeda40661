use Rattle.std.specs.Prelude.{length}
use Rattle.std.proofs.Common.{arith}
use Rattle.testing_rules_laws.proofs.Leaving.{none_left}
use Rattle.testing_rules_laws.proofs.laws.none_is_left.Goals as goal

pub returns : goal.returns
returns c = λ archs sources rows es t. none_left archs sources rows (length es) es t (omega arith)
