use Rattle.std.proofs.Common.{Option, IfSome, subst}
use Rattle.office_store_keeper.specs.Content.{Content}
use Rattle.office_core_facts.specs.declared.covered.KnownFacts.{KnownFacts}
use Rattle.office_core_facts.specs.Known.{AreKnown}
use Rattle.office_core_facts.proofs.LastStand.{known_covered}
use Rattle.office_core_facts.proofs.last_run.run_facts.Goals as goal

pub returns-in-Some-clause-stand : goal.returns-in-Some-clause-stand
returns-in-Some-clause-stand g c = λ trusted office orders was.
    let setup = c.args.setup.now in
    let content : Content = g.K.Keeper.content c.args.keeper.now in
    let known : KnownFacts = c.in-Some.known in
    known_covered setup content known office (subst (λ (o : Option KnownFacts). IfSome o (λ (k : KnownFacts). AreKnown setup content k)) c.in-Some.is was)
