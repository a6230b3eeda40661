use Rattle.std.proofs.lemmas.Result.{IfOk-from_err}
use Rattle.office_store_testing_tables.proofs.NearFacts.{letters_own}
use Rattle.office_store_testing_tables.proofs.nearby.bring.Goals as goal

pub returns-clause-block : goal.returns-clause-block
returns-clause-block g c trusted = letters_own _ _ _ _ _ (c.in_ok-letters.ensures.loaded trusted)

pub returns-in_err-letters-clause-block : goal.returns-in_err-letters-clause-block
returns-in_err-letters-clause-block g c trusted = IfOk-from_err c.from_residual.result _ c.from_residual.ensures.0
