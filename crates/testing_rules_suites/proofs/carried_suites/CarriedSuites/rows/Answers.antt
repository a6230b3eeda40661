use Rattle.std.proofs.Common.{◌≡◌, ◌∙◌, sym, ap, subst, ◌<◌, List, length, []}
use Rattle.std.specs.List.{All}
use Rattle.testing_rules_suites.specs.steps.AfterMoves.{with_rows, rows_at}
use Rattle.testing_rules_model.specs.JudgedRows.{lent}
use Rattle.testing_rules_suites.specs.Present.{CarriedState}
use Rattle.testing_rules_suites.specs.steps.PresentSteps.{set_places}
use Rattle.testing_rules_model.specs.declared.suite.RowIn.{RowIn}
use Rattle.testing_rules_suites.proofs.Showing.{set_places-within}
use Rattle.testing_rules_items.proofs.Weaker.{if_ok_weaker}
use Rattle.testing_rules_suites.proofs.carried_suites.CarriedSuites.rows.Goals as goal

pub rows_in_order-requires : goal.rows_in_order-requires
rows_in_order-requires c =
    let n = length c.self.inside.pool in
    let places = c.deref-2.ensures.value ∙ c.in_ok-places.ensures in
    let long = ap length c.deref.ensures.value ∙ c.self.invariant.long in
    subst (λ ks. All (λ k. k < n) ks) (sym places) (set_places-within c.deref.result.now n long)

pub returns : goal.returns
returns c =
    let pool = c.self.inside.pool in
    let places = c.deref-2.ensures.value ∙ c.in_ok-places.ensures in
    let all = c.deref-2.result.now in
    let stood : CarriedState → List RowIn = λ s. with_rows (rows_at s.rows (set_places s.stands)) [] in
    let made : with_rows (rows_at pool all) [] ≡ stood c.args.self.now =
    ap (λ ks. with_rows (rows_at pool ks) []) (places ∙ ap set_places c.deref.ensures.value) ∙ ap stood c.self.view_is in
    if_ok_weaker (λ rows. lent rows.items ≡ with_rows (rows_at pool all) []) (λ rows. lent rows.items ≡ stood c.args.self.now) c.rows_in_order.result
    (λ rows is. is ∙ made) c.rows_in_order.ensures
