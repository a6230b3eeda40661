use Rattle.std.proofs.Common.{List, ℕ, ap, ◌∙◌}
use Rattle.std.specs.Prelude.{slice_index}
use Rattle.office_mail.specs.Lists.{Lists}
use Rattle.office_core_queries.specs.NextOrder.{order_text}
use Rattle.office_http.proofs.CountFacts.{unbroken_are}
use Rattle.office_http.proofs.serve.order_on.Goals as goal

pub returns-clause-text : goal.returns-clause-text
returns-clause-text g c = λ h.
    let setup = g.K.Keeper.setup c.args.office.now in
    let unbroken = c.in_ok-unbroken.unbroken.items in
    let e = c.in_ok-unbroken.ensures in
    c.in_ok-order_text.ensures ∙ ap (λ (l : Lists). order_text l (slice_index c.deref.result.now) c.args.day) (c.setup.ensures.setup ∙ e.asks.asks.carries.setup)
    ∙ ap (λ (l : List ℕ). order_text setup (slice_index l) c.args.day) c.deref.ensures.value
    ∙ ap (λ (u : ℕ → ℕ). order_text setup u c.args.day) (unbroken_are setup (g.K.Keeper.content c.args.office.now).kept h.1.1.places (slice_index unbroken) (e.unbroken h))
