use Rattle.std.proofs.Common.{◌∙◌}
use Rattle.testing_rules_items.proofs.Guesses.{between}
use Rattle.testing_rules_items.proofs.guessed.search_near.Goals as goal

pub returns-in-Greater-clause-found : goal.returns-in-Greater-clause-found
returns-in-Greater-clause-found g c = λ ord by.
    between ord c.args.items.now c.args.guess (c.is_behind.ensures.within c.if-is_behind.true) (c.is_behind.ensures.below c.if-is_behind.true ord by) (λ within d. c.order_at.ensures.at within ord by d ∙ c.in-Greater.is)
