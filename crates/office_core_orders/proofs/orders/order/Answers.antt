use Rattle.std.proofs.Common.{◌≡◌, ℕ, List, Some, None, sym, ap, ◌∙◌}
use Rattle.std.specs.FinMap.{get}
use Rattle.office_mail.specs.Runs.{runs}
use Rattle.office_core_orders.proofs.ReadyCount.{order_at-none, order_at-read}
use Rattle.office_core_orders.proofs.orders.order.Goals as goal

pub returns-in_ok-read_order-in-Some-clause-order : goal.returns-in_ok-read_order-in-Some-clause-order
returns-in_ok-read_order-in-Some-clause-order g c = λ trusted.
    let setup = c.args.setup.now in
    let kept = (g.K.Keeper.content c.args.keeper.now).kept in
    let text : List ℕ = c.as_slice.result.now in
    let found : get kept (runs setup, c.args.number) ≡ Some text = ap (λ (r : ℕ). get kept (r, c.args.number)) (sym c.runs.ensures.same) ∙ sym (c.in_ok-text.ensures.found trusted) ∙ c.in-Some.is ∙ ap Some (sym c.as_slice.ensures) in
    order_at-read setup kept c.args.number text c.in_ok-read_order-in-Some.field-0 found c.in_ok-read_order-in-Some.ensures

pub returns-in-None-clause-order : goal.returns-in-None-clause-order
returns-in-None-clause-order g c = λ trusted.
    let setup = c.args.setup.now in
    let kept = (g.K.Keeper.content c.args.keeper.now).kept in
    let found : get kept (runs setup, c.args.number) ≡ None = ap (λ (r : ℕ). get kept (r, c.args.number)) (sym c.runs.ensures.same) ∙ sym (c.in_ok-text.ensures.found trusted) ∙ c.in-None.is in
    sym (order_at-none setup kept c.args.number found)
