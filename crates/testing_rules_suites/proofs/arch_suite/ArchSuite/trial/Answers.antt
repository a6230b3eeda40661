use Rattle.std.proofs.Common.{◌∙◌, sym, ap, subst, ℕ, ◌<◌, List, length, map}
use Rattle.std.specs.Prelude.{◌↔◌, Contains, slice_index}
use Rattle.std.specs.List.{All}
use Rattle.std.proofs.lemmas.Result.{IfOk-from_err}
use Rattle.testing_install.specs.Among.{IsLost, after_change}
use Rattle.testing_install.specs.Closed.{marked}
use Rattle.testing_rules_suites.specs.steps.ArchRows.{AreNumbers, AreLostFrom}
use Rattle.testing_rules_suites.proofs.Numbers.{numbers_within, lost_within, lost_numbers}
use Rattle.testing_rules_items.proofs.Weaker.{if_ok_weaker}
use Rattle.testing_rules_suites.proofs.arch_suite.ArchSuite.trial.Goals as goal

pub trial-requires-clause-leaving : goal.trial-requires-clause-leaving
trial-requires-clause-leaving c =
    numbers_within c.deref.result.now c.args.leaving.now c.in_ok-left.left.items c.deref-3.result.now (length c.self.inside.suite.rows) c.in_ok-left.ensures
    (ap length c.deref.ensures.value ∙ sym c.self.invariant.count) c.deref-3.ensures

pub trial-requires-clause-coming : goal.trial-requires-clause-coming
trial-requires-clause-coming c =
    numbers_within c.deref-2.result.now c.args.coming.now c.in_ok-came.came.items c.deref-4.result.now (length c.self.inside.suite.rows) c.in_ok-came.ensures
    (ap length c.deref-2.ensures.value ∙ sym c.self.invariant.count) c.deref-4.ensures

pub places_of-requires : goal.places_of-requires
places_of-requires c =
    let own = c.self.inside.places.items in
    let suite = c.self.inside.suite in
    let leaving = c.args.leaving.now in
    let coming = c.args.coming.now in
    let left = c.in_ok-left.left.items in
    let came = c.in_ok-came.came.items in
    let left_are = subst (λ ks. AreNumbers ks leaving left) c.deref.ensures.value c.in_ok-left.ensures in
    let came_are = subst (λ ks. AreNumbers ks coming came) c.deref-2.ensures.value c.in_ok-came.ensures in
    let lost = c.in_ok-lost.lost.items in
    let AreExact : List ℕ → List ℕ → Type 0 = λ ls cs. (k : ℕ) → Contains lost k ↔ IsLost suite.rows (marked suite.there) (marked (after_change ls cs suite.there)) k in
    let exact = subst (λ ls. AreExact ls came) c.deref-3.ensures (subst (λ cs. AreExact c.deref-3.result.now cs) c.deref-4.ensures c.in_ok-lost.ensures.lost) in
    subst (λ ks. All (λ i. i < length ks) c.deref-6.result.now) (sym c.deref-5.ensures.value)
    (lost_within own suite leaving coming left came left_are came_are c.self.invariant lost exact c.deref-6.result.now c.deref-6.ensures.value)

pub returns-clause-lost : goal.returns-clause-lost
returns-clause-lost c =
    let own = c.self.inside.places.items in
    let suite = c.self.inside.suite in
    let leaving = c.args.leaving.now in
    let coming = c.args.coming.now in
    let left = c.in_ok-left.left.items in
    let came = c.in_ok-came.came.items in
    let left_are = subst (λ ks. AreNumbers ks leaving left) c.deref.ensures.value c.in_ok-left.ensures in
    let came_are = subst (λ ks. AreNumbers ks coming came) c.deref-2.ensures.value c.in_ok-came.ensures in
    let lost = c.in_ok-lost.lost.items in
    let AreExact : List ℕ → List ℕ → Type 0 = λ ls cs. (k : ℕ) → Contains lost k ↔ IsLost suite.rows (marked suite.there) (marked (after_change ls cs suite.there)) k in
    let exact = subst (λ ls. AreExact ls came) c.deref-3.ensures (subst (λ cs. AreExact c.deref-3.result.now cs) c.deref-4.ensures c.in_ok-lost.ensures.lost) in
    if_ok_weaker _ (λ places. AreLostFrom c.args.self.now leaving coming places.items) c.places_of.result
    (λ places is.
    subst (λ p. AreLostFrom p leaving coming places.items) c.self.view_is
    (lost_numbers own suite leaving coming left came left_are came_are c.self.invariant lost exact places.items
    (is ∙ ap (λ ks. map (slice_index ks) c.deref-6.result.now) c.deref-5.ensures.value ∙ ap (map (slice_index own)) c.deref-6.ensures.value)))
    c.places_of.ensures

pub returns-in_err-left-clause-lost : goal.returns-in_err-left-clause-lost
returns-in_err-left-clause-lost c = IfOk-from_err c.from_residual.result _ c.from_residual.ensures.0

pub returns-in_err-came-clause-lost : goal.returns-in_err-came-clause-lost
returns-in_err-came-clause-lost c = IfOk-from_err c.from_residual-in_err-came.result _ c.from_residual-in_err-came.ensures.0

pub returns-in_err-lost-clause-lost : goal.returns-in_err-lost-clause-lost
returns-in_err-lost-clause-lost c = IfOk-from_err c.from_residual-in_err-lost.result _ c.from_residual-in_err-lost.ensures.0
