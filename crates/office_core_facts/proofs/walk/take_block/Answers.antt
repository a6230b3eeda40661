use Rattle.std.proofs.Common.{List, ◌∙◌, arith}
use Rattle.office_store_keeper.specs.declared.values.Letter.{Letter}
use Rattle.office_store_keeper.specs.Content.{Content}
use Rattle.office_core_facts.proofs.ChosenFacts.{block_taken}
use Rattle.office_core_facts.proofs.walk.take_block.Goals as goal

pub returns-clause-took : goal.returns-clause-took
returns-clause-took g c = λ trusted.
    let content : Content = g.K.Keeper.content c.args.keeper.now in
    let block = c.args.stretch in
    let letters : List Letter = c.deref.result.now in
    block_taken c.args.choice c.args.setup.now block.sender content block.done block.end letters c.args.facts.now c.take_letters.new.facts (omega (arith, c.requires.on)) (c.deref.ensures.value ∙ c.in_ok-letters.ensures.loaded trusted)
    c.in_ok-take_letters.ensures
