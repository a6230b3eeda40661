use Rattle.std.proofs.Common.{◌∙◌, ap, ◌++◌, ◌∷◌, []}
use Rattle.testing_rules_suites.proofs.Parts.{range_more}
use Rattle.testing_rules_suites.proofs.carried_suites.first_places.Goals as goal

pub loop-place-preserved : goal.loop-place-preserved
loop-place-preserved c =
    let place = c.loop-place.place in
    c.in_ok-push.ensures.ok ∙ ap (λ ks. ks ++ place ∷ []) c.loop-place.invariant ∙ range_more place
