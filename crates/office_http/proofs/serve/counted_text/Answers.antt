use Rattle.std.proofs.Common.{ap, length, ◌∙◌}
use Rattle.office_mail.specs.Lists.{Lists}
use Rattle.office_core_queries.specs.Mail.{mail_text}
use Rattle.office_http.proofs.CountFacts.{counts_are}
use Rattle.office_http.proofs.serve.counted_text.Goals as goal

pub returns-clause-text : goal.returns-clause-text
returns-clause-text g c = λ h.
    let setup = g.K.Keeper.setup c.args.office.now in
    let counts = c.in_ok-counts.counts.items in
    let e = c.in_ok-counts.ensures in
    c.in_ok-mail_text.ensures ∙ ap (λ (l : Lists). mail_text l c.deref.result.now) (c.setup.ensures.setup ∙ e.asks.asks.carries.setup)
    ∙ ap (mail_text setup) (c.deref.ensures.value ∙ counts_are setup (g.K.Keeper.content c.args.office.now).kept h.1.1.places (length setup.senders) counts (e.counts h))
