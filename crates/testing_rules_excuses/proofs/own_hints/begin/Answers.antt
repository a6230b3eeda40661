use Rattle.std.proofs.Common.{arith}
use Rattle.std.proofs.lemmas.Grind.{text_groups}
use Rattle.testing_rules_excuses.proofs.own_hints.begin.Goals as goal

pub returns : goal.returns
returns c = λ q. grind (arith, text_groups)
