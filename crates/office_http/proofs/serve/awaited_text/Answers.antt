use Rattle.std.proofs.Common.{ℕ, ap, ◌∙◌}
use Rattle.office_mail.specs.Lists.{Lists}
use Rattle.office_core_orders.specs.declared.wait_lines.Waiting.{Waiting}
use Rattle.office_core_orders.specs.WaitingLines.{waiting_text}
use Rattle.office_http.proofs.serve.awaited_text.Goals as goal

pub returns-clause-tells : goal.returns-clause-tells
returns-clause-tells g c = λ h.
    let waiting : Waiting = c.in_ok-waiting.waiting in
    let e = c.in_ok-waiting.ensures in
    let setup = g.K.Keeper.setup c.args.office.now in
    record {
      ready = waiting.progress.ready;
      counts = e.ready h;
      awaited = waiting.awaited;
      awaits = e.awaited h;
      text_is =
          c.in_ok-waiting_text.ensures ∙ ap (λ (l : Lists). waiting_text l waiting) (c.setup.ensures.setup ∙ e.asks.asks.carries.setup)
          ∙ ap (λ (n : ℕ). waiting_text setup (record { progress = record { ready = waiting.progress.ready; finished = n }; awaited = waiting.awaited })) (e.finished h);
    }
