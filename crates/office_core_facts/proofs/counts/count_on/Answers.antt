use Rattle.office_core_facts.proofs.CountFacts.{counted_on}
use Rattle.office_core_facts.proofs.counts.count_on.Goals as goal

pub returns-clause-unbroken : goal.returns-clause-unbroken
returns-clause-unbroken g c = λ trusted has ends.
    let kept = (g.K.Keeper.content c.args.keeper.now).kept in
    counted_on kept c.args.sender c.args.known c.in_ok-count.count c.at_least.result has ends (c.in_ok-count.ensures.goes_on trusted) c.at_least.ensures.same
