use Rattle.std.proofs.Common.{◌≡◌, subst, rules, of_calls}
use Rattle.std.proofs.lemmas.Fn.{always_returns_same}
use Rattle.std.specs.List.{IsAllAdjacentAnswer}
use Rattle.testing_rules_excuses.proofs.BugSearch.{bugs-rise, is_below}
use Rattle.testing_rules_excuses.proofs.bug_search.are_by_number.Goals as goal

pub returns : goal.returns
returns c told =
    let bs = c.args.bugs.now in
    let all = c.is_sorted_by.ensures.cases is_below (always_returns_same _ _ _ (λ a r f k. search (rules, of_calls))) in
    bugs-rise bs (subst (λ r. IsAllAdjacentAnswer (λ x y b. b ≡ is_below x y) bs r) told all)
