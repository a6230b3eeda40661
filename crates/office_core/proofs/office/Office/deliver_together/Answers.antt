use Rattle.std.proofs.Common.{IfOk, IfSome, length, sym, ap, subst, ◌∙◌, arith}
use Rattle.office_store_keeper.specs.Content.{Content}
use Rattle.office_mail.specs.Lists.{Lists}
use Rattle.office_core_facts.specs.State.{IsSound}
use Rattle.office_core.specs.History.{Leads, deliveries}
use Rattle.office_core_orders.proofs.CountFacts.{IsCounted-later}
use Rattle.office_core.proofs.CountSteps.{together_kept}
use Rattle.office_core.proofs.HistoryFacts.{together}
use Rattle.office_core.proofs.KeepingFacts.{if_known-later}
use Rattle.office_core.proofs.office.Office.deliver_together.Goals as goal

pub invariant_of-self : goal.invariant_of-self
invariant_of-self g c =
    let old : Content = g.K.Keeper.content c.self.inside.keeper in
    let new : Content = g.K.Keeper.content c.keep_texts-replies.new.keeper in
    let done = c.keep_texts-replies.ensures in (
      done.runs.changes.setup ∙ c.self.invariant.0,
      λ trusted. (
          let later = IsCounted-later c.self.inside.setup old new c.self.inside.counts.items c.self.inside.orders.items (done.within trusted) (omega (arith, ap length (done.runs.reports trusted))) (c.self.invariant.1 (done.runs.changes.before trusted)) in
          let held = together_kept c.self.inside.setup old.kept new.kept c.args.texts.now c.keep_texts-replies.result (done.answers trusted) (done.kept trusted) in
          record { numbers = c.count_replies.ensures new.kept held later.numbers; first = later.first; next = later.next }),
      λ trusted. if_known-later c.self.inside.setup old new c.self.inside.known (done.within trusted) (done.runs.reports trusted) (done.runs.facts trusted) (c.self.invariant.2 (done.runs.changes.before trusted)),
    )

pub returns-clause-steps : goal.returns-clause-steps
returns-clause-steps g c = λ holds.
    let trusted = holds.0 in
    let keeper = g.K.Keeper in
    let new : Content = keeper.content c.keep_texts-replies.new.keeper in
    let done = c.keep_texts-replies.ensures in
    let answer = c.keep_texts-replies.result in
    subst (λ v. IsSound keeper v → IfOk answer (λ replies. IfSome replies (λ rs. Leads (keeper.setup v) (keeper.content v) (deliveries c.args.texts.now rs.items) new))) c.self.view_is (λ sound.
    let old : Content = keeper.content c.self.inside.keeper in
    subst (λ (s : Lists). IfOk answer (λ replies. IfSome replies (λ rs. Leads s old (deliveries c.args.texts.now rs.items) new))) (sym c.self.invariant.0)
    (together c.self.inside.setup c.args.texts.now answer old new (done.answers trusted) (done.kept trusted) (done.runs.reports trusted) (done.runs.testing trusted sound.0))) holds.1
