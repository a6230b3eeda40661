use Rattle.std.proofs.Common.{rules, of_calls}
use Rattle.std.proofs.lemmas.Fn.{always_returns_same}
use Rattle.testing_rules_model.specs.declared.facts.UnhintIn.{UnhintIn}
use Rattle.testing_rules_model.specs.Unstable.{unhint_order}
use Rattle.testing_rules_facts.proofs.taken.place_of_unhint.Goals as goal

pub returns-clause-found : goal.returns-clause-found
returns-clause-found c = c.binary_search_by.ensures.position (λ (other : UnhintIn). unhint_order other c.args.unhint.now) (always_returns_same _ _ _ (λ a r f k. search (rules, of_calls)))
