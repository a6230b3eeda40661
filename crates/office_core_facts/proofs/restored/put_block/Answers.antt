use Rattle.std.proofs.Common.{◌∙◌, List}
use Rattle.office_store_keeper.specs.declared.values.Letter.{Letter}
use Rattle.office_store_keeper.specs.Content.{Content}
use Rattle.office_core_facts.proofs.SaidLetters.{letters_own}
use Rattle.office_core_facts.proofs.restored.put_block.Goals as goal

pub returns-clause-back : goal.returns-clause-back
returns-clause-back g c = λ trusted.
    let content : Content = g.K.Keeper.content c.args.keeper.now in
    let letters : List Letter = c.deref.result.now in
    let own = letters_own content.kept _ _ _ letters (c.deref.ensures.value ∙ c.in_ok-letters.ensures.loaded trusted) in
    λ first was. c.in_ok-put_letters.ensures content.kept _ first own was
