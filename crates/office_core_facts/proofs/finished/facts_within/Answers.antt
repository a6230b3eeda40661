use Rattle.std.proofs.Common.{length, slice_index, subst, arith}
use Rattle.testing_rules_model.specs.StandsFor.{StandsFor}
use Rattle.office_store_keeper.specs.Content.{Content}
use Rattle.office_core_facts.specs.steps.Walk.{said_within}
use Rattle.office_core_facts.proofs.finished.facts_within.Goals as goal

pub take_to-requires : goal.take_to-requires
take_to-requires g c = record { within = λ s low. omega (arith, c.in_ok-known.ensures.within s, c.requires.ahead s low) }

pub returns-clause-stand : goal.returns-clause-stand
returns-clause-stand g c = λ trusted office are.
    let setup = c.args.setup.now in
    let content : Content = g.K.Keeper.content c.args.keeper.now in
    let n = length setup.senders in
    let known = c.in_ok-known.known in
    let earlier = c.in_ok-take_to.ensures.looks.before trusted in
    subst (λ (m : Content). StandsFor known.facts (said_within setup m.kept (slice_index known.taken.items) n) content.testing
    → StandsFor c.take_to.new.known.facts (said_within setup m.kept (slice_index c.args.covers.now) n) content.testing)
    (c.in_ok-known.ensures.looks.same earlier) (c.in_ok-take_to.ensures.stand trusted content.testing) ((c.in_ok-known.ensures.found earlier).stand office are)
