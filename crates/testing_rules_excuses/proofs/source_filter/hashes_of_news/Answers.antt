use Rattle.std.proofs.Common.{arith, ◌≤◌, length}
use Rattle.std.proofs.lemmas.Result.{IfOk-from_err}
use Rattle.std.proofs.lemmas.List.{take_all}
use Rattle.testing_rules_excuses.proofs.source_filter.hashes_of_news.Goals as goal

pub returns : goal.returns
returns c =
    let over : length c.args.news.now ≤ c.loop-source.source-index = omega arith in
    rw (take_all c.loop-source.source-index c.args.news.now over) at c.loop-source.invariant

pub returns-in_err-push : goal.returns-in_err-push
returns-in_err-push c = IfOk-from_err c.from_residual.result _ c.from_residual.ensures.0
