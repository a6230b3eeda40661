use Rattle.std.proofs.Common.{◌≡◌, arith, ◌∙◌, sym, ap, subst, ◌<◌, length, get_or}
use Rattle.std.specs.List.Sorted.{IsPartitionPoint}
use Rattle.std.specs.declared.cmp.Ordering.TheVariants.{Less, Equal, Greater}
use Rattle.deb_control.specs.declared.binary.Binary.{Binary}
use Rattle.testing_rules_model.specs.WithMessage.{outlives}
use Rattle.testing_rules_model.specs.Unstable.{pair_order, pair_of, drop_pair}
use Rattle.testing_rules_model.specs.declared.facts.DropIn.{DropIn}
use Rattle.testing_rules_model.proofs.MoreMail.{pair_total}
use Rattle.testing_rules_model.specs.Boxed.{unboxed}
use Rattle.testing_rules_model.proofs.Unboxed.{unboxed-at, unboxed-length}
use Rattle.testing_rules_model.proofs.KeyOrder.{searchable}
use Rattle.testing_rules_facts.proofs.KeySlots.{all-found, all-missing, outlives-apart}
use Rattle.testing_rules_facts.proofs.taken.stands_beside.Goals as goal

pub returns-in-Ok : goal.returns-in-Ok
returns-in-Ok c =
    let b = c.args.build.now in
    let bs = c.args.drops.now in
    let xs = unboxed bs in
    let i = c.in-Ok.i in
    let box = c.index-drops-i.result in
    let d = box.value in
    let below : i < length bs = omega (arith, unboxed-length bs, c.in-Ok.ensures.bound) in
    let read = unboxed-at bs i box d below c.index-drops-i.is in
    let pair = ap (λ (q : Binary). (q.architecture, q.name)) (sym c.deref-binary.ensures) ∙ ap (λ n. (c.deref-binary.result.now.architecture, n)) (sym c.as_str-2.ensures) ∙ ap (λ a. (a, c.as_str-2.result.now)) (sym c.as_str.ensures) in
    let level : pair_order (drop_pair (get_or xs i d)) (pair_of b) ≡ Equal = ap (pair_order (drop_pair (get_or xs i d))) pair ∙ c.in-Ok.ensures.found d in
    c.outlives.ensures
    ∙ ap (λ (e : DropIn). outlives e b) (c.deref.ensures ∙ sym read)
    ∙ sym (all-found drop_pair pair_total (λ (e : DropIn). outlives e b) (pair_of b) (λ e h. outlives-apart e b h) xs i d c.requires c.in-Ok.ensures.bound level)

pub returns-in-Err : goal.returns-in-Err
returns-in-Err c =
    let b = c.args.build.now in
    let xs = unboxed c.args.drops.now in
    let i = c.in-Err.field-0 in
    let pair = ap (λ (q : Binary). (q.architecture, q.name)) (sym c.deref-binary.ensures) ∙ ap (λ n. (c.deref-binary.result.now.architecture, n)) (sym c.as_str-2.ensures) ∙ ap (λ a. (a, c.as_str-2.result.now)) (sym c.as_str.ensures) in
    let by_pair = λ (p : _). IsPartitionPoint (λ (y : DropIn). pair_order (drop_pair y) p ≡ Less) (λ (y : DropIn). pair_order (drop_pair y) p ≡ Greater) xs i in
    let parts = subst by_pair (sym pair) (c.in-Err.ensures.found (searchable drop_pair pair_total xs c.requires (c.as_str.result.now, c.as_str-2.result.now))) in
    sym (all-missing drop_pair pair_total (λ (e : DropIn). outlives e b) (pair_of b) (λ e h. outlives-apart e b h) xs i parts)
