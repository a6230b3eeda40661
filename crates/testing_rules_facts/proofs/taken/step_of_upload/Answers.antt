use Rattle.std.proofs.Common.{◌≡◌, arith, ◌∙◌, sym, ap, subst, ◌<◌, length, get_or, false, true}
use Rattle.std.specs.List.Sorted.{IsPartitionPoint}
use Rattle.std.specs.Ordering.{is_lt}
use Rattle.std.specs.declared.cmp.Ordering.TheVariants.{Less, Equal, Greater}
use Rattle.testing_rules_model.specs.Boxed.{unboxed}
use Rattle.testing_rules_items.specs.Words.{byte_cmp}
use Rattle.testing_rules_model.specs.steps.FactRows.{source_row}
use Rattle.testing_rules_model.specs.Unstable.{upload_order}
use Rattle.testing_rules_model.specs.declared.facts.UploadIn.{UploadIn}
use Rattle.testing_rules_model.proofs.Orders.{text_order}
use Rattle.testing_rules_model.proofs.Unboxed.{unboxed-at, unboxed-length}
use Rattle.testing_rules_model.proofs.KeyOrder.{searchable}
use Rattle.testing_rules_facts.proofs.Steps.{step-nowhere, step-over, step-before}
use Rattle.testing_rules_facts.proofs.taken.step_of_upload.Goals as goal

pub returns-then-is_lt : goal.returns-then-is_lt
returns-then-is_lt c =
    let x = c.args.upload.now in
    let bs = c.args.sources.now in
    let xs = unboxed bs in
    let i = c.in-Ok.i in
    let box = c.index-sources-i.result in
    let e = box.value in
    let below : i < length bs = omega (arith, unboxed-length bs, c.in-Ok.ensures.bound) in
    let read : get_or xs i e ≡ c.deref-other.result.now = unboxed-at bs i box e below c.index-sources-i.is ∙ sym c.deref-other.ensures in
    let level : byte_cmp (get_or xs i e).source x.source ≡ Equal = ap (byte_cmp (get_or xs i e).source) (sym c.as_str.ensures) ∙ c.in-Ok.ensures.found e in
    let ranked : is_lt (upload_order (get_or xs i e) x) ≡ true = ap (λ (y : UploadIn). is_lt (upload_order y x)) read ∙ sym (ap is_lt c.upload_order.ensures) ∙ sym c.is_lt.ensures ∙ c.if-is_lt.true in
    step-nowhere (λ (u : UploadIn). u.source) text_order upload_order source_row x xs i e c.no_step.result c.requires c.in-Ok.ensures.bound level ranked c.no_step.ensures.slot c.no_step.ensures.left c.no_step.ensures.came

pub returns-else-is_lt : goal.returns-else-is_lt
returns-else-is_lt c =
    let x = c.args.upload.now in
    let bs = c.args.sources.now in
    let xs = unboxed bs in
    let i = c.in-Ok.i in
    let box = c.index-sources-i.result in
    let e = box.value in
    let below : i < length bs = omega (arith, unboxed-length bs, c.in-Ok.ensures.bound) in
    let read : get_or xs i e ≡ c.deref-other.result.now = unboxed-at bs i box e below c.index-sources-i.is ∙ sym c.deref-other.ensures in
    let level : byte_cmp (get_or xs i e).source x.source ≡ Equal = ap (byte_cmp (get_or xs i e).source) (sym c.as_str.ensures) ∙ c.in-Ok.ensures.found e in
    let ranked : is_lt (upload_order (get_or xs i e) x) ≡ false = ap (λ (y : UploadIn). is_lt (upload_order y x)) read ∙ sym (ap is_lt c.upload_order.ensures) ∙ sym c.is_lt.ensures ∙ c.if-is_lt.false in
    step-over (λ (u : UploadIn). u.source) text_order upload_order source_row x xs i e _ _ c.requires c.in-Ok.ensures.bound level ranked (c.source_row-in-Ok.ensures ∙ ap source_row (sym read)) c.source_row.ensures

pub returns-in-Err : goal.returns-in-Err
returns-in-Err c =
    let x = c.args.upload.now in
    let xs = unboxed c.args.sources.now in
    let i = c.in-Err.i in
    let by_name = λ (n : _). IsPartitionPoint (λ (y : UploadIn). byte_cmp y.source n ≡ Less) (λ (y : UploadIn). byte_cmp y.source n ≡ Greater) xs i in
    let parts = subst by_name c.as_str.ensures (c.in-Err.ensures.found (searchable (λ (u : UploadIn). u.source) text_order xs c.requires c.as_str.result.now)) in
    step-before (λ (u : UploadIn). u.source) text_order upload_order source_row x xs i _ c.in-Err.ensures.bound parts c.source_row.ensures
