use Rattle.std.proofs.Common.{◌≡◌, ◌≤◌, ℕ, length, slice_index, ap, subst, arith}
use Rattle.std.proofs.lemmas.Result.{err_from_is_err_and}
use Rattle.office_mail.specs.Runs.{cover_of, orders_to}
use Rattle.office_store_keeper.specs.Content.{Content}
use Rattle.office_core_facts.specs.State.{IsOffice}
use Rattle.office_core_store.proofs.LookFacts.{looked_fails, looked_none, looked_then}
use Rattle.office_core_facts.specs.Seen.{IsTrialCover}
use Rattle.office_core_facts.proofs.CountFacts.{cover_few, each_pushed, few_within, size_pushed}
use Rattle.office_core_facts.proofs.covers.trial_covers.Goals as goal

pub senders-init : goal.senders-init
senders-init g c = record {
  size = ap length c.new-covers.ensures.items;
  covers = λ trusted office are s low. absurd (omega (arith, low));
  ahead = λ s low. absurd (omega (arith, low));
  looks = looked_none g.K.Keeper c.args.keeper.now;
}

pub senders-preserved : goal.senders-preserved
senders-preserved g c =
    let so = c.senders.invariant in
    let setup = c.args.setup.now in
    let content : Content = g.K.Keeper.content c.args.keeper.now in
    let next = c.in_ok-trial_cover.ensures in
    let cover : ℕ = c.in_ok-trial_cover.field-0 in
    let pushed = c.in_ok-push.ensures.items in
    record {
      size = size_pushed c.senders.covers.items c.push.new.self.items cover c.senders.sender so.size pushed;
      covers = λ trusted office are.
          let earlier = next.looks.before trusted in
          each_pushed (λ s x. IsTrialCover setup content.kept (length content.reports) c.args.all s x) c.senders.covers.items c.push.new.self.items cover c.senders.sender so.size (so.covers earlier office are) pushed
          (subst (λ (m : Content). IsOffice setup m → c.args.orders.now ≡ orders_to setup m.kept (length m.reports) → IsTrialCover setup m.kept (length m.reports) c.args.all c.senders.sender cover) (so.looks.same earlier)
          (next.cover trusted) office are);
      ahead = each_pushed (λ s x. cover_of c.args.orders.now s ≤ x) c.senders.covers.items c.push.new.self.items cover c.senders.sender so.size so.ahead pushed next.ahead;
      looks = looked_then g.K.Keeper c.args.keeper.now c.senders.keeper c.trial_cover.new.keeper so.looks next.looks;
    }

pub returns-clause-covers : goal.returns-clause-covers
returns-clause-covers g c = λ trusted office are s low.
    let all : length c.args.setup.now.senders ≤ c.senders.sender = omega (arith, c.senders-test.false, c.senders.auto.sender-end, ap length c.senders-sender-end.ensures.same) in
    c.senders.invariant.covers trusted office are s (omega (arith, low, all))

pub returns-clause-few : goal.returns-clause-few
returns-clause-few g c = λ trusted office are.
    let setup = c.args.setup.now in
    let content : Content = g.K.Keeper.content c.args.keeper.now in
    let so = c.senders.invariant in
    few_within c.senders.covers.items c.senders.sender so.size
    (λ s low. cover_few setup content c.args.all s (slice_index c.senders.covers.items s) office (so.covers trusted office are s low))

pub returns-clause-ahead : goal.returns-clause-ahead
returns-clause-ahead g c = λ s low.
    let all : length c.args.setup.now.senders ≤ c.senders.sender = omega (arith, c.senders-test.false, c.senders.auto.sender-end, ap length c.senders-sender-end.ensures.same) in
    c.senders.invariant.ahead s (omega (arith, low, all))

pub returns-in_err-trial_cover-clause-looks : goal.returns-in_err-trial_cover-clause-looks
returns-in_err-trial_cover-clause-looks g c =
    let keeper = g.K.Keeper in
    let p = err_from_is_err_and c.from_residual.result c.from_residual.ensures.1 in
    looked_fails keeper c.args.keeper.now c.senders.keeper c.trial_cover.new.keeper c.in_err-trial_cover.field-0.0 p.0 c.from_residual.result p.1 (cc (p.2)) c.senders.invariant.looks c.in_err-trial_cover.ensures.looks
