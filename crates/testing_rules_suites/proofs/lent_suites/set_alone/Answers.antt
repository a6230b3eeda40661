use Rattle.std.proofs.Common.{◌≡◌, ◌∙◌, sym, ap, ◌+◌, ◌++◌, ◌∷◌, [], cond, filter, append-nil}
use Rattle.std.specs.List.{range_with_len}
use Rattle.std.proofs.lemmas.List.Elements.{filter-append}
use Rattle.testing_rules_suites.proofs.Parts.{range_more}
use Rattle.testing_rules_suites.specs.steps.Standing.{is_alone}
use Rattle.testing_rules_suites.proofs.lent_suites.set_alone.Goals as goal
use Rattle.testing_rules_suites.proofs.lent_suites.set_alone.Goals.{then-is_alone+in_ok-push, else-is_alone}

pub loop-place-preserved : goal.loop-place-preserved
loop-place-preserved c =
    let test = is_alone c.args.flags.now c.args.others.now in
    let place = c.loop-place.place in
    let before = filter test (range_with_len 0 place) in
    let more : filter test (range_with_len 0 (place + 1)) ≡ before ++ cond (test place) (place ∷ []) [] =
    ap (filter test) (sym (range_more place)) ∙ filter-append test (range_with_len 0 place) (place ∷ []) in
    elim c.if-is_alone.branch [
      | then-is_alone+in_ok-push w ↦
          ap (λ v. v.items) w.places-is ∙ w.in_ok-push.ensures.ok ∙ ap (λ ks. ks ++ place ∷ []) c.loop-place.invariant
          ∙ sym (more ∙ ap (λ b. before ++ cond b (place ∷ []) []) (sym c.is_alone.ensures ∙ w.if-is_alone.true))
      | else-is_alone w ↦
          ap (λ v. v.items) w.places-is ∙ c.loop-place.invariant ∙ sym (append-nil before)
          ∙ sym (more ∙ ap (λ b. before ++ cond b (place ∷ []) []) (sym c.is_alone.ensures ∙ w.if-is_alone.false))
    ]
