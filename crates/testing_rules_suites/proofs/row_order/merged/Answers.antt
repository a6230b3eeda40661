use Rattle.std.proofs.Common.{arith, ◌≡◌, ◌∙◌, sym, ap, ap₂, subst, ◌<◌, ◌≤◌, ◌+◌, ◌++◌, ◌∷◌, [], length}
use Rattle.std.proofs.lemmas.List.{take-append-drop}
use Rattle.testing_rules_suites.specs.steps.Pools.{HasPlaces}
use Rattle.testing_rules_suites.proofs.Merging.{IsMerged, merged_none, merged_more, merged_all}
use Rattle.testing_rules_suites.proofs.row_order.merged.Goals as goal

pub loop-place-init : goal.loop-place-init
loop-place-init c =
    let n = length c.args.rows.now in
    let from = c.args.from in
    let places = c.args.places.now in
    subst (λ ms. IsMerged n from from ms places) (sym c.in_ok-merged.ensures.items) (merged_none n from places c.requires.from c.requires.places)

pub loop-place-preserved : goal.loop-place-preserved
loop-place-preserved c =
    let n = length c.args.rows.now in
    let from = c.args.from in
    let place = c.loop-place.place in
    let merged = c.loop-place.merged.items in
    let rest = c.loop-place.rest.now in
    let before = c.split_at.result.0.now in
    let behind = c.split_at.result.1.now in
    let below : place < n = omega arith in
    let halves : rest ≡ before ++ behind = sym (ap₂ (λ a b. a ++ b) c.split_at.ensures.front c.split_at.ensures.back ∙ take-append-drop c.places_before.result rest) in
    let items = c.in_ok-push.ensures.items ∙ ap (λ ms. ms ++ place ∷ []) c.in_ok-extend_from_slice.ensures.items in
    subst (λ ms. IsMerged n from (place + 1) ms behind) (sym items) (merged_more n from place merged rest before behind halves below c.loop-place.invariant)

pub returns : goal.returns
returns c =
    let n = length c.args.rows.now in
    let place = c.loop-place.place in
    let end : n ≤ place = omega (arith, c.loop-place-test.false) in
    subst (HasPlaces n) (sym c.in_ok-extend_from_slice-2.ensures.items) (merged_all n c.args.from place c.loop-place.merged.items c.loop-place.rest.now end c.loop-place.invariant)
