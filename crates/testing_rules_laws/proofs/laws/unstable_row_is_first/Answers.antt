use Rattle.std.specs.Prelude.{filter, ◌&&◌}
use Rattle.testing_rules_model.specs.declared.facts.BuildIn.{BuildIn}
use Rattle.testing_rules_model.specs.Covered.{builds_in}
use Rattle.testing_rules_model.specs.Unstable.{is_build_of, is_above_drops}
use Rattle.testing_rules_model.proofs.Orders.{build_total}
use Rattle.testing_rules_model.proofs.First.{least-none_below}
use Rattle.testing_rules_laws.proofs.laws.unstable_row_is_first.Goals as goal

pub returns : goal.returns
returns c = λ s arch name b h. least-none_below build_total (filter (λ (v : BuildIn). is_build_of arch name v && is_above_drops s v) (builds_in s)) b h
