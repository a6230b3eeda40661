use Rattle.std.proofs.Common.{◌≡◌, ◌+◌, sym, subst, ◌∙◌}
use Rattle.office_mail.specs.Runs.{IsReady, IsReadyCount}
use Rattle.office_store_keeper.specs.Content.{Content}
use Rattle.office_core_orders.specs.Ready.{HasPlaces}
use Rattle.office_core_orders.specs.Waiting.{Awaits}
use Rattle.office_core_orders.proofs.WaitingFacts.{awaited_some}
use Rattle.office_core_orders.proofs.waits.waiting.Goals as goal

pub returns-clause-finished : goal.returns-clause-finished
returns-clause-finished g c = λ trusted. c.in_ok-finished.ensures.value (c.in_ok-ready.ensures.looks.before (c.in_ok-awaited.ensures.looks.before trusted))

pub returns-clause-ready : goal.returns-clause-ready
returns-clause-ready g c = λ trusted places last.
    let setup = c.args.setup.now in
    let content = g.K.Keeper.content in
    let old : Content = content c.args.keeper.now in
    let second = c.in_ok-ready.ensures in
    let first = c.in_ok-finished.ensures in
    let later = c.in_ok-awaited.ensures.looks.before trusted in
    let earlier = second.looks.before later in
    let same : content c.finished.new.keeper ≡ old = first.looks.same earlier in
    let n = c.in_ok-ready.ready in
    let k = c.in_ok-finished.finished in
    let ready : IsReady setup old.kept k = subst (IsReady setup old.kept) (sym (first.value earlier)) last in
    subst (λ (m : Content). HasPlaces setup m.kept → IsReady setup m.kept k → IsReadyCount setup m.kept n) same (second.ready later) places ready

pub returns-clause-awaited : goal.returns-clause-awaited
returns-clause-awaited g c = λ trusted places last.
    let setup = c.args.setup.now in
    let content = g.K.Keeper.content in
    let old : Content = content c.args.keeper.now in
    let third = c.in_ok-awaited.ensures in
    let second = c.in_ok-ready.ensures in
    let first = c.in_ok-finished.ensures in
    let later = third.looks.before trusted in
    let earlier = second.looks.before later in
    let same : content c.finished.new.keeper ≡ old = first.looks.same earlier in
    let same2 : content c.ready_count.new.keeper ≡ old = second.looks.same later ∙ same in
    let n = c.in_ok-ready.ready in
    let k = c.in_ok-finished.finished in
    let ready : IsReady setup old.kept k = subst (IsReady setup old.kept) (sym (first.value earlier)) last in
    let count : IsReadyCount setup old.kept n =
    subst (λ (m : Content). HasPlaces setup m.kept → IsReady setup m.kept k → IsReadyCount setup m.kept n) same (second.ready later) places ready in
    subst (λ (m : Content). HasPlaces setup m.kept → IsReady setup m.kept n → Awaits setup m.kept (n + 1) c.in_ok-awaited.awaited) same2 (third.awaited trusted) places count.holds

pub returns-clause-some : goal.returns-clause-some
returns-clause-some g c = λ trusted places last.
    let setup = c.args.setup.now in
    let content = g.K.Keeper.content in
    let old : Content = content c.args.keeper.now in
    let third = c.in_ok-awaited.ensures in
    let second = c.in_ok-ready.ensures in
    let first = c.in_ok-finished.ensures in
    let later = third.looks.before trusted in
    let earlier = second.looks.before later in
    let same : content c.finished.new.keeper ≡ old = first.looks.same earlier in
    let same2 : content c.ready_count.new.keeper ≡ old = second.looks.same later ∙ same in
    let n = c.in_ok-ready.ready in
    let k = c.in_ok-finished.finished in
    let ready : IsReady setup old.kept k = subst (IsReady setup old.kept) (sym (first.value earlier)) last in
    let count : IsReadyCount setup old.kept n =
    subst (λ (m : Content). HasPlaces setup m.kept → IsReady setup m.kept k → IsReadyCount setup m.kept n) same (second.ready later) places ready in
    let awaits : Awaits setup old.kept (n + 1) c.in_ok-awaited.awaited =
    subst (λ (m : Content). HasPlaces setup m.kept → IsReady setup m.kept n → Awaits setup m.kept (n + 1) c.in_ok-awaited.awaited) same2 (third.awaited trusted) places count.holds in
    awaited_some setup old.kept n c.in_ok-awaited.awaited count awaits
