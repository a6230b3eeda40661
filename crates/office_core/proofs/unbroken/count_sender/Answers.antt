use Rattle.office_core.proofs.UnbrokenFacts.{counted_all}
use Rattle.office_core.proofs.unbroken.count_sender.Goals as goal

pub returns-clause-unbroken : goal.returns-clause-unbroken
returns-clause-unbroken g c = λ setup trusted places.
    counted_all setup (g.K.Keeper.content c.args.keeper.now).kept c.args.sender c.in_ok-count.count places (c.in_ok-count.ensures.each trusted) (c.in_ok-count.ensures.gap trusted)
