use Rattle.std.proofs.Common.{rules, of_calls}
use Rattle.std.proofs.lemmas.Fn.{always_returns_same}
use Rattle.testing_rules_model.specs.declared.facts.HintIn.{HintIn}
use Rattle.testing_rules_model.specs.Unstable.{hint_order}
use Rattle.testing_rules_facts.proofs.taken.place_of_hint.Goals as goal

pub returns-clause-found : goal.returns-clause-found
returns-clause-found c = c.binary_search_by.ensures.position (λ (other : HintIn). hint_order other c.args.hint.now) (always_returns_same _ _ _ (λ a r f k. search (rules, of_calls)))
