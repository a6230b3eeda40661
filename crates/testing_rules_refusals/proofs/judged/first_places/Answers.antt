use Rattle.std.proofs.Common.{◌∙◌, sym, ap, ◌++◌, ◌∷◌, [], ◌≡◌, ◌+◌, arith}
use Rattle.testing_rules_refusals.proofs.Numbering.{numbers_more}
use Rattle.testing_rules_refusals.proofs.judged.first_places.Goals as goal

pub loop-place-preserved : goal.loop-place-preserved
loop-place-preserved c =
    let place = c.loop-place.place in
    let next : 0 + place ≡ place = omega arith in
    c.in_ok-push.ensures.items ∙ ap (λ ks. ks ++ place ∷ []) c.loop-place.invariant ∙ sym (numbers_more 0 place place next)
