use Rattle.std.proofs.Common.{sym, ap, subst, length, option_map}
use Rattle.std.specs.List.Sorted.{IsBinarySearchResult, IsSearchInRange}
use Rattle.testing_rules_items.specs.Words.{byte_cmp}
use Rattle.testing_rules_model.specs.declared.suite.SourceIn.{SourceIn}
use Rattle.testing_rules_model.proofs.Orders.{text_order}
use Rattle.testing_rules_model.proofs.KeyOrder.{searchable, find-at, find-none}
use Rattle.testing_rules_fact_order.proofs.trims.version_found.Goals as goal

pub returns-in-Ok : goal.returns-in-Ok
returns-in-Ok c =
    let name = c.args.name.now in
    let xs = c.args.sources.now in
    let d = c.index-sources-place.result in
    let bound = subst (λ r. IsSearchInRange r (length xs)) c.in-Ok.is c.requires.bound in
    let found = subst (λ r. IsBinarySearchResult (λ (s : SourceIn). byte_cmp s.name name) xs r) c.in-Ok.is c.requires.found in
    sym (ap (option_map (λ (s : SourceIn). s.version)) (find-at (λ (s : SourceIn). s.name) name xs c.in-Ok.place d c.requires.order bound (found d)))

pub returns-in-Err : goal.returns-in-Err
returns-in-Err c =
    let name = c.args.name.now in
    let xs = c.args.sources.now in
    let found = subst (λ r. IsBinarySearchResult (λ (s : SourceIn). byte_cmp s.name name) xs r) c.in-Err.is c.requires.found in
    sym (ap (option_map (λ (s : SourceIn). s.version))
    (find-none (λ (s : SourceIn). s.name) name xs c.in-Err._place (found (searchable (λ (s : SourceIn). s.name) text_order xs c.requires.order name))))
