use Rattle.std.proofs.lemmas.Result.{IfOk-from_err}
use Rattle.testing_rules_items.proofs.archs.Archs.copy.Goals as goal

pub returns-in_err-names : goal.returns-in_err-names
returns-in_err-names c = IfOk-from_err c.from_residual.result _ c.from_residual.ensures.0
