use Rattle.std.proofs.lemmas.Result.{IfOk-from_err}
use Rattle.std.proofs.Common.{arith, ◌≤◌, length}
use Rattle.std.proofs.lemmas.List.{take_all}
use Rattle.testing_rules_live.proofs.change.push_coming.Goals as goal

pub returns-in_err-push : goal.returns-in_err-push
returns-in_err-push c = IfOk-from_err c.from_residual.result _ c.from_residual.ensures.0

pub returns : goal.returns
returns c =
    let over : length c.args.places.now ≤ c.loop-place.place-index = omega arith in
    rw (take_all c.loop-place.place-index c.args.places.now over) at c.loop-place.invariant
