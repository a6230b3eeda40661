use Rattle.std.proofs.Common.{rules, of_calls, ℕ}
use Rattle.std.proofs.lemmas.Fn.{always_returns_same}
use Rattle.std.specs.Ordering.{nat_cmp}
use Rattle.testing_rules_suites.proofs.Numbers.{number_is}
use Rattle.testing_rules_suites.proofs.arch_suite.number_near.Goals as goal

pub returns : goal.returns
returns c =
    let place = c.args.place in
    let found = c.search_near.ensures.found (λ (y : ℕ). nat_cmp y place) (always_returns_same _ _ _ (λ a r f k. search (rules, of_calls))) in
    number_is c.args.places.now place c.search_near.result c.requires found
