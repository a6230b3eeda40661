use Rattle.std.proofs.Common.{[], ◌∷◌, length, sym, ap, subst, ◌∙◌, arith}
use Rattle.office_store_keeper.specs.Content.{Content}
use Rattle.office_mail.specs.Lists.{Lists}
use Rattle.office_core_facts.specs.State.{IsSound}
use Rattle.office_core.specs.History.{Leads, delivery}
use Rattle.office_core_orders.proofs.CountFacts.{IsCounted-later}
use Rattle.office_core.proofs.CountSteps.{delivery_kept}
use Rattle.office_core.proofs.HistoryFacts.{delivered}
use Rattle.office_core.proofs.KeepingFacts.{if_known-later}
use Rattle.office_core.proofs.office.Office.deliver.Goals as goal

pub invariant_of-self : goal.invariant_of-self
invariant_of-self g c =
    let old : Content = g.K.Keeper.content c.self.inside.keeper in
    let new : Content = g.K.Keeper.content c.deliver_text-reply.new.keeper in
    let done = c.deliver_text-reply.ensures in (
      done.runs.changes.setup ∙ c.self.invariant.0,
      λ trusted. (
          let later = IsCounted-later c.self.inside.setup old new c.self.inside.counts.items c.self.inside.orders.items (done.within trusted) (omega (arith, ap length (done.runs.reports trusted))) (c.self.invariant.1 (done.runs.changes.before trusted)) in
          let held = delivery_kept c.self.inside.setup old.kept new.kept c.args.text.now c.deliver_text-reply.result (done.answer trusted) (done.kept trusted) in
          record { numbers = c.count_reply.ensures new.kept held later.numbers; first = later.first; next = later.next }),
      λ trusted. if_known-later c.self.inside.setup old new c.self.inside.known (done.within trusted) (done.runs.reports trusted) (done.runs.facts trusted) (c.self.invariant.2 (done.runs.changes.before trusted)),
    )

pub returns-clause-step : goal.returns-clause-step
returns-clause-step g c = λ holds.
    let trusted = holds.0 in
    let keeper = g.K.Keeper in
    let new : Content = keeper.content c.deliver_text-reply.new.keeper in
    let done = c.deliver_text-reply.ensures in
    let steps = delivery c.args.text.now c.deliver_text-reply.result ∷ [] in
    subst (λ v. IsSound keeper v → Leads (keeper.setup v) (keeper.content v) steps new) c.self.view_is (λ sound.
    let old : Content = keeper.content c.self.inside.keeper in
    subst (λ (s : Lists). Leads s old steps new) (sym c.self.invariant.0)
    (delivered c.self.inside.setup c.args.text.now c.deliver_text-reply.result old new (done.answer trusted) (done.kept trusted) (done.runs.testing trusted sound.0) (done.runs.reports trusted) (done.runs.err trusted))) holds.1
