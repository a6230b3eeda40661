use Rattle.std.proofs.Common.{subst}
use Rattle.std.specs.List.Sorted.{IsBinarySearchResult}
use Rattle.testing_rules_items.specs.Words.{byte_cmp}
use Rattle.testing_rules_model.specs.declared.suite.SourceIn.{SourceIn}
use Rattle.testing_rules_fact_order.proofs.trims.note_uncounted.Goals as goal

pub counts_at-requires-clause-found : goal.counts_at-requires-clause-found
counts_at-requires-clause-found c =
    subst (λ n. IsBinarySearchResult (λ (s : SourceIn). byte_cmp s.name n) c.args.sources.now c.source_place_near-place.result) c.as_str.ensures c.source_place_near-place.ensures.found
