use Rattle.std.proofs.Common.{◌≡◌, ◌+◌, arith, subst, ◌∙◌}
use Rattle.std.specs.Prelude.{◌-◌, get_or}
use Rattle.std.specs.declared.cmp.Ordering.TheVariants.{Less}
use Rattle.testing_rules_items.proofs.Guesses.{between}
use Rattle.testing_rules_items.proofs.guessed.search_behind.Goals as goal

pub returns-in-Greater-clause-found : goal.returns-in-Greater-clause-found
returns-in-Greater-clause-found g c = λ ord by.
    let items = c.args.items.now in
    let place = c.args.place in
    let same : place ≡ place + 1 - 1 = omega arith in
    between ord items (place + 1) (omega (arith, c.requires.within)) (λ some d. subst (λ k. ord (get_or items k d) ≡ Less) same (c.requires.below ord by d)) (λ within d. c.order_at.ensures.at within ord by d ∙ c.in-Greater.is)
