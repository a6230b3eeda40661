use Rattle.std.specs.Prelude.{filter}
use Rattle.testing_rules_model.specs.Covered.{drops_in}
use Rattle.testing_rules_model.specs.Unstable.{is_drop_of}
use Rattle.testing_rules_model.proofs.Orders.{drop_total}
use Rattle.testing_rules_model.proofs.First.{least-none_below}
use Rattle.testing_rules_laws.proofs.laws.greatest_drop_is_first.Goals as goal

pub returns : goal.returns
returns c = λ s arch name d h. least-none_below drop_total (filter (is_drop_of arch name) (drops_in s)) d h
