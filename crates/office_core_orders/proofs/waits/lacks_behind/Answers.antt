use Rattle.std.proofs.Common.{◌≡◌, ◌+◌, ◌<◌, List, length, slice_index, sym, ap, subst, ◌∙◌, arith}
use Rattle.office_core_orders.specs.declared.wait_lines.Lack.{Lack}
use Rattle.office_core_orders.specs.Waiting.{AreLacks}
use Rattle.office_core_orders.proofs.WaitingFacts.{lacks_none, lacks_found, lacks_skipped}
use Rattle.office_core_orders.proofs.waits.lacks_behind.Goals as goal
use Rattle.office_core_orders.proofs.waits.lacks_behind.Goals.{then-count-cover+in_ok-push, else-count-cover}

pub senders-init : goal.senders-init
senders-init c = record {
  within = omega arith;
  lacks = λ kept each reached. lacks_none kept c.args.order.now c.new-lacks.result.items c.new-lacks.ensures.items;
}

pub senders-preserved : goal.senders-preserved
senders-preserved c =
    let setup = c.args.setup.now in
    let order = c.args.order.now in
    let counts = c.args.counts.now in
    let n = c.senders.sender in
    let all = ap length c.senders-sender-end.ensures.same in
    let lt : n < length setup.senders = omega (arith, c.senders-test.true, all) in
    record {
      within = omega (arith, lt);
      lacks = λ kept each reached.
          let are = c.senders.invariant.lacks kept each reached in
          let count : c.count_of-count.result ≡ slice_index counts n = c.count_of-count.ensures in
          let cover : c.stated_for-cover.result ≡ slice_index order.covers n = c.stated_for-cover.ensures in
          elim c.if-count-cover.branch [
            | then-count-cover+in_ok-push w ↦
                let push = ap (λ v. v.items) w.lacks-is ∙ w.in_ok-push.ensures.items in
                lacks_found kept order counts n c.senders.lacks.items c.if-count-cover.lacks.items _ push each (reached n lt) (omega (arith, lt, c.senders-sender-end.ensures.few)) (omega (arith, count)) cover
                (omega (arith, count, cover, w.if-count-cover.true)) are
            | else-count-cover w ↦
                subst (λ (xs : List Lack). AreLacks kept order (n + 1) xs) (sym (ap (λ v. v.items) w.lacks-is))
                (lacks_skipped kept order counts n c.senders.lacks.items each (omega (arith, count, cover, w.if-count-cover.false)) are)
          ];
    }

pub returns : goal.returns
returns c = λ kept each reached.
    let all = ap length c.senders-sender-end.ensures.same in
    let end : c.senders.sender ≡ length c.args.setup.now.senders = omega (arith, c.senders.invariant.within, c.senders-test.false, all) in
    subst (λ n. AreLacks kept c.args.order.now n c.senders.lacks.items) end (c.senders.invariant.lacks kept each reached)
