use Rattle.office_store_keeper.specs.Content.{Content}
use Rattle.office_core_facts.proofs.CountFacts.{covered_numbers, ends_below}
use Rattle.office_core_facts.proofs.seen.seen_cover.Goals as goal

pub returns-clause-unbroken : goal.returns-clause-unbroken
returns-clause-unbroken g c = λ setup trusted office are.
    let content : Content = g.K.Keeper.content c.args.keeper.now in
    c.count_on.ensures.unbroken trusted (covered_numbers setup content c.args.orders.now c.args.sender c.cover_of-known.result office are c.cover_of-known.ensures)
    (ends_below setup content.kept c.args.sender office.places)
