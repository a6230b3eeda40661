use Rattle.std.proofs.Common.{◌≡◌, ℕ, length, ap, subst, arith}
use Rattle.std.proofs.lemmas.Result.{err_from_is_err_and}
use Rattle.office_store_keeper.specs.Content.{Content}
use Rattle.office_core_orders.specs.Ready.{HasEach, HasPlaces}
use Rattle.office_core_store.proofs.LookFacts.{looked_fails, looked_none, looked_then}
use Rattle.office_core_facts.specs.Seen.{IsUnbroken}
use Rattle.office_core_facts.proofs.CountFacts.{each_pushed, size_pushed}
use Rattle.office_core.proofs.UnbrokenFacts.{all_counted}
use Rattle.office_core.proofs.unbroken.unbroken_counts.Goals as goal

pub senders-init : goal.senders-init
senders-init g c = record {
  size = ap length c.new-unbroken.ensures.items;
  each = c.requires.each;
  unbroken = λ trusted places s low. absurd (omega (arith, low));
  looks = looked_none g.K.Keeper c.args.keeper.now;
}

pub senders-preserved : goal.senders-preserved
senders-preserved g c =
    let so = c.senders.invariant in
    let setup = c.args.setup.now in
    let content : Content = g.K.Keeper.content c.args.keeper.now in
    let next = c.in_ok-count_sender.ensures in
    let count : ℕ = c.in_ok-count_sender.field-0 in
    let pushed = c.in_ok-push.ensures.items in
    record {
      size = size_pushed c.senders.unbroken.items c.push.new.self.items count c.senders.sender so.size pushed;
      each = λ trusted. subst (λ (m : Content). HasEach m.kept c.count_sender.new.counts.items) (so.looks.same (next.looks.before trusted)) (next.each trusted);
      unbroken = λ trusted places.
          let earlier = next.looks.before trusted in
          each_pushed (λ s x. IsUnbroken content.kept s x) c.senders.unbroken.items c.push.new.self.items count c.senders.sender so.size (so.unbroken earlier places) pushed
          (subst (λ (m : Content). HasPlaces setup m.kept → IsUnbroken m.kept c.senders.sender count) (so.looks.same earlier) (next.unbroken setup trusted) places);
      looks = looked_then g.K.Keeper c.args.keeper.now c.senders.keeper c.count_sender.new.keeper so.looks next.looks;
    }

pub returns-clause-unbroken : goal.returns-clause-unbroken
returns-clause-unbroken g c = λ trusted places.
    let so = c.senders.invariant in
    let setup = c.args.setup.now in
    let all : length setup.senders ≡ c.senders.sender = omega (arith, c.senders-test.false, c.senders.auto.sender-end, ap length c.senders-sender-end.ensures.same) in
    all_counted setup (g.K.Keeper.content c.args.keeper.now).kept c.senders.unbroken.items places (omega (arith, so.size, all))
    (λ s low. so.unbroken trusted places s (omega (arith, low, all)))

pub returns-in_err-count_sender-clause-looks : goal.returns-in_err-count_sender-clause-looks
returns-in_err-count_sender-clause-looks g c =
    let keeper = g.K.Keeper in
    let p = err_from_is_err_and c.from_residual.result c.from_residual.ensures.1 in
    looked_fails keeper c.args.keeper.now c.senders.keeper c.count_sender.new.keeper c.in_err-count_sender.field-0.0 p.0 c.from_residual.result p.1 (cc (p.2)) c.senders.invariant.looks c.in_err-count_sender.ensures.looks
