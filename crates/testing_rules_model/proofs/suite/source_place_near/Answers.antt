use Rattle.std.proofs.Common.{rules, of_calls}
use Rattle.std.proofs.lemmas.Fn.{always_returns_same}
use Rattle.testing_rules_items.specs.Words.{byte_cmp}
use Rattle.testing_rules_model.specs.declared.suite.SourceIn.{SourceIn}
use Rattle.testing_rules_model.proofs.suite.source_place_near.Goals as goal

pub returns-clause-found : goal.returns-clause-found
returns-clause-found c =
    c.search_near.ensures.found (λ (s : SourceIn). byte_cmp s.name c.args.name.now) (always_returns_same _ _ _ (λ a r f k. search (rules, of_calls)))
