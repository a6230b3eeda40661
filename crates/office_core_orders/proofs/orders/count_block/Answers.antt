use Rattle.std.proofs.Common.{◌∙◌}
use Rattle.office_store_keeper.specs.Content.{Content}
use Rattle.office_core_orders.proofs.orders.count_block.Goals as goal

pub returns-clause-goes_on : goal.returns-clause-goes_on
returns-clause-goes_on g c = λ trusted.
    let content : Content = g.K.Keeper.content c.args.keeper.now in
    c.last_in_line.ensures.goes_on content.kept c.args.sender (c.deref.ensures.value ∙ c.in_ok-letters.ensures.loaded trusted)
