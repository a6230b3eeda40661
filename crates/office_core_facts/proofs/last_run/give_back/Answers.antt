use Rattle.std.proofs.Common.{true, Ok}
use Rattle.office_core_store.proofs.GivingBack.{given_back}
use Rattle.office_core_store.proofs.LookFacts.{looked_none}
use Rattle.office_core_facts.proofs.last_run.give_back.Goals as goal

pub returns : goal.returns
returns g c =
    let b = c.give_back.ensures in
    let keeper = g.K.Keeper in
    given_back keeper _ _ _ true (Ok true) (looked_none keeper c.args.keeper.now) b.same b.setup b.clean b.faults b.before b.stays b.legible b.counted tt
