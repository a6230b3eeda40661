use Rattle.std.proofs.Common.{rules, of_calls, Box, Global}
use Rattle.std.proofs.lemmas.Fn.{always_returns_same}
use Rattle.testing_rules_items.specs.Words.{byte_cmp}
use Rattle.testing_rules_model.specs.declared.facts.UploadIn.{UploadIn}
use Rattle.testing_rules_model.proofs.Unboxed.{unboxed-bound, unboxed-found}
use Rattle.testing_rules_facts.proofs.moves.place_near.Goals as goal

pub returns-clause-bound : goal.returns-clause-bound
returns-clause-bound c = unboxed-bound c.args.sources.now c.search_near.result c.search_near.ensures.bound

pub returns-clause-found : goal.returns-clause-found
returns-clause-found c =
    let name = c.args.name.now in
    unboxed-found (λ (u : UploadIn). byte_cmp u.source name) c.args.sources.now c.search_near.result c.search_near.ensures.bound
    (c.search_near.ensures.found (λ (b : Box UploadIn Global). byte_cmp b.value.source name) (always_returns_same _ _ _ (λ a r f k. search (rules, of_calls))))
