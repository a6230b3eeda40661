use Rattle.std.proofs.Common.{◌≡◌, ◌∙◌, sym, ap, subst, ◌<◌, length, filter, IfSome}
use Rattle.std.specs.List.{All, slice_get}
use Rattle.std.proofs.lemmas.Option.{IfSome_then}
use Rattle.testing_install.specs.Closed.{marked}
use Rattle.testing_rules_suites.specs.steps.AfterMoves.{rows_at}
use Rattle.testing_rules_suites.specs.steps.Pools.{HasPlaces}
use Rattle.testing_rules_model.specs.SameMessages.{SameElements}
use Rattle.testing_rules_suites.specs.Present.{CarriedState}
use Rattle.testing_rules_suites.specs.steps.PresentSteps.{set_places}
use Rattle.testing_rules_suites.proofs.Flags.{bounded_filter}
use Rattle.testing_rules_suites.proofs.Merging.{same_places}
use Rattle.testing_rules_model.proofs.Sets.{same-given}
use Rattle.testing_rules_items.proofs.Weaker.{if_ok_weaker}
use Rattle.testing_rules_suites.proofs.carried_suites.CarriedSuites.copies_in_pool_order.Goals as goal

pub set_among-requires : goal.set_among-requires
set_among-requires c =
    let long = ap length c.deref.ensures.value ∙ c.self.invariant.long in
    subst (λ n. All (λ k. k < n) c.order.result.now) (sym long) c.order.ensures.within

pub copies_by_key-requires : goal.copies_by_key-requires
copies_by_key-requires c =
    let n = length c.self.inside.pool in
    let places = c.deref-2.ensures.value ∙ c.in_ok-places.ensures in
    subst (λ ks. All (λ k. k < n) ks) (sym places) (bounded_filter n (marked c.deref.result.now) c.order.result.now c.order.ensures.within)

pub returns-clause-copies : goal.returns-clause-copies
returns-clause-copies c =
    let pool = c.self.inside.pool in
    let flags = c.deref.result.now in
    let order = c.order.result.now in
    let all = c.deref-2.result.now in
    let long = ap length c.deref.ensures.value ∙ c.self.invariant.long in
    let has = subst (λ n. HasPlaces n order) (sym long) c.order.ensures in
    let places = c.deref-2.ensures.value ∙ c.in_ok-places.ensures in
    let shown = same-given (slice_get pool) (set_places flags) (filter (marked flags) order) (same_places flags order has) in
    let listed = subst (λ ks. SameElements (rows_at pool (set_places flags)) (rows_at pool ks)) (sym places) shown in
    let stood = subst (λ fs. SameElements (rows_at pool (set_places fs)) (rows_at pool all)) c.deref.ensures.value listed in
    let same = subst (λ (s : CarriedState). SameElements (rows_at s.rows (set_places s.stands)) (rows_at pool all)) c.self.view_is stood in
    if_ok_weaker (λ found. IfSome found (λ copies. copies.items ≡ rows_at pool all)) (λ found. IfSome found (λ copies. SameElements (rows_at c.args.self.now.rows (set_places c.args.self.now.stands)) copies.items)) c.copies_by_key.result
    (λ found is. IfSome_then found is (λ copies are. subst (SameElements (rows_at c.args.self.now.rows (set_places c.args.self.now.stands))) (sym are) same)) c.copies_by_key.ensures.copies
