use Rattle.std.proofs.lemmas.Result.{IfOk-from_err}
use Rattle.std.proofs.Common.{arith, ◌≤◌, length}
use Rattle.std.proofs.lemmas.Grind.{common_steps}
use Rattle.std.proofs.lemmas.List.{take_all}
use Rattle.testing_rules_excuses.proofs.run_excuses.excuses_on.Goals as goal

pub returns-in_err-excuse_of : goal.returns-in_err-excuse_of
returns-in_err-excuse_of c = IfOk-from_err c.from_residual-in_err-excuse_of.result _ c.from_residual-in_err-excuse_of.ensures.0

pub returns-in_err-push : goal.returns-in_err-push
returns-in_err-push c = IfOk-from_err c.from_residual-in_err-push.result _ c.from_residual-in_err-push.ensures.0

pub loop-source-preserved : goal.loop-source-preserved
loop-source-preserved c = grind (arith, common_steps)

pub returns : goal.returns
returns c =
    let over : length c.args.news.now ≤ c.loop-source.source-index = omega arith in
    rw (take_all c.loop-source.source-index c.args.news.now over) at c.loop-source.invariant
