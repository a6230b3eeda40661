use Rattle.std.proofs.Common.{IfSome, subst}
use Rattle.office_store_keeper.specs.Content.{Content}
use Rattle.office_core_facts.specs.Known.{AreKnown}
use Rattle.office_core_facts.proofs.KnownStand.{known_stand}
use Rattle.office_core_facts.proofs.covered.known_before.Goals as goal

pub returns-in-Some-clause-found : goal.returns-in-Some-clause-found
returns-in-Some-clause-found g c = λ trusted.
    let setup = c.args.setup.now in
    let content : Content = g.K.Keeper.content c.args.keeper.now in
    let known : AreKnown setup content c.in-Some.known = subst (λ o. IfSome o (λ known. AreKnown setup content known)) c.in-Some.ensures.same (c.requires.known trusted) in
    record { way = known.facts; stand = λ office first size. known_stand setup content c.in-Some.known office known }
