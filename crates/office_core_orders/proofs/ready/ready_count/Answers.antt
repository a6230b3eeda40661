use Rattle.std.proofs.Common.{◌+◌, ◌↔◌, IsTrue, subst}
use Rattle.office_mail.specs.Runs.{IsReady}
use Rattle.office_store_keeper.specs.Content.{Content}
use Rattle.office_core_orders.specs.Ready.{HasEach, HasPlaces}
use Rattle.office_core_orders.proofs.ReadyCount.{ready_count}
use Rattle.office_core_store.proofs.LookFacts.{looked_none, looked_then}
use Rattle.office_core_orders.proofs.ready.ready_count.Goals as goal

pub runs-init : goal.runs-init
runs-init g c = record {
  each = c.requires.each;
  ready = λ trusted places ready. ready;
  looks = looked_none g.K.Keeper c.args.keeper.now;
}

pub runs-preserved : goal.runs-preserved
runs-preserved g c =
    let setup = c.args.setup.now in
    let so = c.runs.invariant in
    let next = c.in_ok-follows.ensures in
    let n = c.runs.count in
    record {
      each = λ trusted. subst (λ (m : Content). HasEach m.kept c.follows.new.counts.items) (so.looks.same (next.looks.before trusted)) (next.each trusted);
      ready = λ trusted places ready.
          let earlier = next.looks.before trusted in
          (subst (λ (m : Content). HasPlaces setup m.kept → IsReady setup m.kept n → (IsTrue c.in_ok-follows.field-0 ↔ IsReady setup m.kept (n + 1))) (so.looks.same earlier) (next.ready trusted) places (so.ready earlier places ready)).0 c.if-branch.true;
      looks = looked_then g.K.Keeper c.args.keeper.now c.runs.keeper c.follows.new.keeper so.looks next.looks;
    }

pub returns-clause-ready : goal.returns-clause-ready
returns-clause-ready g c = λ trusted places ready.
    let setup = c.args.setup.now in
    let content : Content = g.K.Keeper.content c.args.keeper.now in
    let next = c.in_ok-follows.ensures in
    let earlier = next.looks.before trusted in
    let n = c.runs.count in
    let here = c.runs.invariant.ready earlier places ready in
    let answer = subst (λ (m : Content). HasPlaces setup m.kept → IsReady setup m.kept n → (IsTrue c.in_ok-follows.field-0 ↔ IsReady setup m.kept (n + 1))) (c.runs.invariant.looks.same earlier) (next.ready trusted) places here in
    ready_count setup content.kept n here (λ more. absurd (cc (c.if-branch.false, answer.1 more)))
