use Rattle.std.proofs.Common.{sym, ap, ◌∙◌, ◌<◌, length, arith, Some, subst}
use Rattle.std.specs.List.Sorted.{IsBinarySearchResult, IsSearchInRange}
use Rattle.testing_rules_items.specs.Words.{byte_cmp}
use Rattle.testing_rules_model.specs.Boxed.{unboxed}
use Rattle.testing_rules_model.specs.declared.facts.UploadIn.{UploadIn}
use Rattle.testing_rules_model.proofs.Orders.{text_order}
use Rattle.testing_rules_model.proofs.KeyOrder.{searchable, find-at, find-none}
use Rattle.testing_rules_model.proofs.Unboxed.{unboxed-at, unboxed-length}
use Rattle.testing_rules_facts.proofs.moves.source_found.Goals as goal

pub returns-in-Ok : goal.returns-in-Ok
returns-in-Ok c =
    let bs = c.args.sources.now in
    let xs = unboxed bs in
    let i = c.in-Ok.place in
    let box = c.index-sources-place.result in
    let bound : i < length xs = subst (λ r. IsSearchInRange r (length xs)) c.in-Ok.is c.requires.bound in
    let found = subst (λ r. IsBinarySearchResult (λ (u : UploadIn). byte_cmp u.source c.args.name.now) xs r) c.in-Ok.is c.requires.found in
    let below : i < length bs = omega (arith, unboxed-length bs, bound) in
    let read = unboxed-at bs i box box.value below c.index-sources-place.is ∙ sym c.deref-upload.ensures in
    let here = find-at (λ (u : UploadIn). u.source) c.args.name.now xs i box.value c.requires.order bound (found box.value) in
    sym (here ∙ ap Some read)

pub returns-in-Err : goal.returns-in-Err
returns-in-Err c =
    let name = c.args.name.now in
    let xs = unboxed c.args.sources.now in
    let found = subst (λ r. IsBinarySearchResult (λ (u : UploadIn). byte_cmp u.source name) xs r) c.in-Err.is c.requires.found in
    sym (find-none (λ (u : UploadIn). u.source) name xs c.in-Err.field-0 (found (searchable (λ (u : UploadIn). u.source) text_order xs c.requires.order name)))
