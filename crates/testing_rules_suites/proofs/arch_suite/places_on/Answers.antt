use Rattle.std.proofs.Common.{◌≡◌, ◌∙◌, sym, ap, ◌+◌, ◌-◌, ◌++◌, ◌∷◌, [], cond, false, filter, append-nil, arith, List, ℕ}
use Rattle.std.specs.List.{range_with_len}
use Rattle.std.specs.Option.{option_map_or}
use Rattle.std.proofs.lemmas.List.Elements.{filter-append}
use Rattle.testing_rules_model.specs.steps.Moves.{is_row_on}
use Rattle.testing_rules_suites.specs.steps.Trials.{is_place_on}
use Rattle.testing_rules_suites.proofs.Parts.{range_behind}
use Rattle.testing_rules_suites.proofs.arch_suite.places_on.Goals as goal
use Rattle.testing_rules_suites.proofs.arch_suite.places_on.Goals.{then-is_row_on+in_ok-push, else-is_row_on}

pub loop-place-preserved : goal.loop-place-preserved
loop-place-preserved c =
    let test = is_place_on c.args.arch c.args.pool.now in
    let from = c.args.from in
    let place = c.loop-place.place in
    let before : List ℕ = filter test (range_with_len from (place - from)) in
    let more : filter test (range_with_len from ((place + 1) - from)) ≡ before ++ cond (test place) (place ∷ []) [] =
    ap (filter test) (sym (range_behind from place c.loop-place.invariant.above)) ∙ filter-append test (range_with_len from (place - from)) (place ∷ []) in
    let passes = ap (λ o. option_map_or (is_row_on c.args.arch) o false) c.row-row.ensures ∙ sym c.is_row_on.ensures in
    record {
      so_far = elim c.if-is_row_on.branch [
        | then-is_row_on+in_ok-push w ↦
            ap (λ v. v.items) w.places-is ∙ w.in_ok-push.ensures.ok ∙ ap (λ ks. ks ++ place ∷ []) c.loop-place.invariant.so_far
            ∙ sym (more ∙ ap (λ b. before ++ cond b (place ∷ []) []) (passes ∙ w.if-is_row_on.true))
        | else-is_row_on w ↦
            ap (λ v. v.items) w.places-is ∙ c.loop-place.invariant.so_far ∙ sym (append-nil before)
            ∙ sym (more ∙ ap (λ b. before ++ cond b (place ∷ []) []) (passes ∙ w.if-is_row_on.false))
      ];
      above = omega (arith, c.loop-place.invariant.above);
    }
