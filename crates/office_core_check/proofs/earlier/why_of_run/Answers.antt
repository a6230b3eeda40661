use Rattle.std.proofs.Common.{◌≡◌, length, sym, subst, ◌∙◌}
use Rattle.std.proofs.lemmas.Result.{IfOk-weaker}
use Rattle.office_mail.specs.Lists.{Lists}
use Rattle.office_store_keeper.specs.Content.{Content}
use Rattle.office_core.specs.Preserves.{Holds}
use Rattle.office_core_why.specs.Why.{IsWhy}
use Rattle.office_core_check.specs.Earlier.{IsToldOfRun}
use Rattle.office_core_check.proofs.EarlierFacts.{told_of_last}
use Rattle.office_core_check.proofs.earlier.why_of_run.Goals as goal

pub returns-then-finished-run-clause-why : goal.returns-then-finished-run-clause-why
returns-then-finished-run-clause-why g c = λ holds.
    let keeper = g.K.Keeper in
    let old : Content = keeper.content c.args.office.now in
    let new : Content = keeper.content c.finished.new.self in
    let setup : Lists = keeper.setup c.args.office.now in
    let run = c.args.run in
    let source = c.args.source.now in
    let asked = c.in_ok-finished.ensures.asks.asks in
    let before : Holds keeper c.args.office.now c.finished.new.self = (c.why_text.ensures.asks.asks.carries.before holds.0, holds.1) in
    let same : new ≡ old = asked.same before.0 in
    let last : length old.reports ≡ run = sym (c.in_ok-finished.ensures.finished before) ∙ c.if-finished-run.true in
    let told = c.why_text.ensures.why (holds.0, asked.carries.sound before.0 before.1) in
    IfOk-weaker c.why_text.result
    (IsWhy (keeper.setup c.finished.new.self) new.kept (length new.reports) source)
    (IsToldOfRun setup old.kept (length old.reports) run source)
    (λ text why. told_of_last setup old run source text last
    (subst (λ (m : Content). IsWhy setup m.kept (length m.reports) source text) same
    (subst (λ (s : Lists). IsWhy s new.kept (length new.reports) source text) asked.carries.setup why)))
    told

pub returns-else-finished-run-clause-why : goal.returns-else-finished-run-clause-why
returns-else-finished-run-clause-why g c = λ holds same.
    let old : Content = g.K.Keeper.content c.args.office.now in
    let last : c.in_ok-finished.finished ≡ length old.reports = c.in_ok-finished.ensures.finished holds in
    absurd (c.if-finished-run.false (last ∙ sym same))
