use Rattle.std.proofs.Common.{subst}
use Rattle.std.specs.List.Sorted.{IsBinarySearchResult}
use Rattle.testing_rules_items.specs.Words.{byte_cmp}
use Rattle.testing_rules_model.specs.declared.suite.SourceIn.{SourceIn}
use Rattle.testing_rules_model.proofs.KeyPlaces.{place-for}
use Rattle.testing_rules_model.proofs.Orders.{text_order}
use Rattle.testing_rules_suites.proofs.suite.place_of_source.Goals as goal

pub returns : goal.returns
returns c =
    let xs = c.args.sources.now in
    let found = subst (λ n. IsBinarySearchResult (λ (s : SourceIn). byte_cmp s.name n) xs c.place_of_name.result) c.as_str.ensures c.place_of_name.ensures.found in
    place-for (λ (s : SourceIn). s.name) text_order c.args.source.now xs c.place_of_name.result c.requires c.place_of_name.ensures.bound found
