use Rattle.std.proofs.Common.{rules, of_calls}
use Rattle.std.proofs.lemmas.Fn.{always_returns_same}
use Rattle.testing_rules_items.specs.Words.{byte_cmp}
use Rattle.testing_rules_model.specs.declared.suite.SourceIn.{SourceIn}
use Rattle.testing_rules_fact_order.proofs.trims.place_of_name.Goals as goal

pub returns-clause-found : goal.returns-clause-found
returns-clause-found c =
    c.binary_search_by.ensures.position (λ (s : SourceIn). byte_cmp s.name c.args.name.now) (always_returns_same _ _ _ (λ a r f k. search (rules, of_calls)))
