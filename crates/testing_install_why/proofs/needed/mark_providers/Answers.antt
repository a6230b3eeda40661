use Rattle.std.proofs.Common.{◌≤◌, length, ap, arith}
use Rattle.std.proofs.lemmas.Option.{slice_get-get_or}
use Rattle.testing_install_why.proofs.MarkedSteps.{marked_all}
use Rattle.testing_install_why.proofs.needed.mark_providers.Goals as goal

pub returns : goal.returns
returns c =
    let order = c.args.order.now in
    let long = ap length c.as_slice-alternative-items.ensures in
    let over : length c.clause_of-clause.result.now ≤ c.loop-alternative.alternative-index = omega arith in
    let at = slice_get-get_or order c.args.number (record { place = 0; need = 0 }) c.requires.number in
    marked_all c.args.suite.now.rows order c.args.noted.now c.args.needed.now c.loop-alternative.needed c.args.number c.clause_of-clause.result.now c.loop-alternative.alternative-index _ c.requires.noted at c.clause_of-clause.ensures over c.loop-alternative.invariant
