use Rattle.std.proofs.Common.{◌≡◌, ◌-◌, ◌≤◌, IfOk, IsTrue, length, sym, subst, arith}
use Rattle.office_store_keeper.specs.Content.{Content}
use Rattle.office_core_check.specs.steps.Comparing.{IsMadeUpTo}
use Rattle.office_core_check.specs.Whole.{AreOfSenders, IsFinished}
use Rattle.office_core_check.proofs.EarlierFacts.{before_made}
use Rattle.office_core_check.proofs.earlier.office_before.Goals as goal

pub returns-then-is_finished-clause-earlier : goal.returns-then-is_finished-clause-earlier
returns-then-is_finished-clause-earlier g c = λ trusted are.
    let keeper = g.K.Keeper in
    let here : Content = keeper.content c.args.keeper.now in
    let now : Content = keeper.content c.finished.new.self in
    let setup = c.args.setup.now in
    let run = c.args.run in
    let last = c.saturating_sub-earlier.result in
    let earlier = c.made_up_to.ensures.looks.before trusted in
    let same : now ≡ here = c.in_ok-finished.ensures.reads.same earlier in
    let within = c.is_finished.ensures.0 c.if-is_finished.true in
    let finished : IsFinished here run = (within.0, subst (λ n. run ≤ n) (c.in_ok-finished.ensures.value earlier) within.1) in
    let is : last ≡ run - 1 = omega (arith, c.saturating_sub-earlier.ensures) in
    before_made setup here run c.made_up_to.result finished
    (subst (λ n. IfOk c.made_up_to.result (IsMadeUpTo setup here n)) is
    (subst (λ (m : Content). last ≤ length m.reports → AreOfSenders setup m.kept → IfOk c.made_up_to.result (IsMadeUpTo setup m last)) same (c.made_up_to.ensures.made trusted)
    (omega (arith, is, finished.1)) are))

pub returns-else-is_finished-clause-earlier : goal.returns-else-is_finished-clause-earlier
returns-else-is_finished-clause-earlier g c = λ trusted are finished office.
    let here = g.K.Keeper.content c.args.keeper.now in
    let run = c.args.run in
    let size : c.in_ok-finished.finished ≡ length here.reports = c.in_ok-finished.ensures.value trusted in
    let yes : IsTrue c.is_finished.result = c.is_finished.ensures.1 (finished.0, subst (λ n. run ≤ n) (sym size) finished.1) in
    absurd (cc (yes, c.if-is_finished.false))
