use Rattle.std.proofs.Common.{◌≡◌, ◌≤◌, ℕ, length, ap, subst, arith}
use Rattle.std.proofs.lemmas.Result.{err_from_is_err_and}
use Rattle.office_mail.specs.Runs.{cover_of, orders_to}
use Rattle.office_store_keeper.specs.Content.{Content}
use Rattle.office_core_facts.specs.State.{IsOffice}
use Rattle.office_core_store.proofs.LookFacts.{looked_fails, looked_none, looked_then}
use Rattle.office_core_facts.specs.Seen.{IsUnbroken}
use Rattle.office_core_facts.proofs.CountFacts.{each_pushed, size_pushed}
use Rattle.office_core_facts.proofs.seen.seen_covers.Goals as goal

pub senders-init : goal.senders-init
senders-init g c = record {
  size = ap length c.new-covers.ensures.items;
  unbroken = λ trusted office are s low. absurd (omega (arith, low));
  ahead = λ s low. absurd (omega (arith, low));
  looks = looked_none g.K.Keeper c.args.keeper.now;
}

pub senders-preserved : goal.senders-preserved
senders-preserved g c =
    let so = c.senders.invariant in
    let setup = c.args.setup.now in
    let content : Content = g.K.Keeper.content c.args.keeper.now in
    let next = c.in_ok-seen_cover.ensures in
    let cover : ℕ = c.in_ok-seen_cover.field-0 in
    let pushed = c.in_ok-push.ensures.items in
    record {
      size = size_pushed c.senders.covers.items c.push.new.self.items cover c.senders.sender so.size pushed;
      unbroken = λ trusted office are.
          let earlier = next.looks.before trusted in
          each_pushed (λ s x. IsUnbroken content.kept s x) c.senders.covers.items c.push.new.self.items cover c.senders.sender so.size (so.unbroken earlier office are) pushed
          (subst (λ (m : Content). IsOffice setup m → c.args.orders.now ≡ orders_to setup m.kept (length m.reports) → IsUnbroken m.kept c.senders.sender cover) (so.looks.same earlier)
          (next.unbroken setup trusted) office are);
      ahead = each_pushed (λ s x. cover_of c.args.orders.now s ≤ x) c.senders.covers.items c.push.new.self.items cover c.senders.sender so.size so.ahead pushed next.ahead;
      looks = looked_then g.K.Keeper c.args.keeper.now c.senders.keeper c.seen_cover.new.keeper so.looks next.looks;
    }

pub returns-clause-unbroken : goal.returns-clause-unbroken
returns-clause-unbroken g c = λ trusted office are s low.
    let all : length c.args.setup.now.senders ≤ c.senders.sender = omega (arith, c.senders-test.false, c.senders.auto.sender-end, ap length c.senders-sender-end.ensures.same) in
    c.senders.invariant.unbroken trusted office are s (omega (arith, low, all))

pub returns-clause-ahead : goal.returns-clause-ahead
returns-clause-ahead g c = λ s low.
    let all : length c.args.setup.now.senders ≤ c.senders.sender = omega (arith, c.senders-test.false, c.senders.auto.sender-end, ap length c.senders-sender-end.ensures.same) in
    c.senders.invariant.ahead s (omega (arith, low, all))

pub returns-in_err-seen_cover-clause-looks : goal.returns-in_err-seen_cover-clause-looks
returns-in_err-seen_cover-clause-looks g c =
    let keeper = g.K.Keeper in
    let p = err_from_is_err_and c.from_residual.result c.from_residual.ensures.1 in
    looked_fails keeper c.args.keeper.now c.senders.keeper c.seen_cover.new.keeper c.in_err-seen_cover.field-0.0 p.0 c.from_residual.result p.1 (cc (p.2)) c.senders.invariant.looks c.in_err-seen_cover.ensures.looks
