use Rattle.std.proofs.Common.{◌≡◌, ◌∙◌, sym, ap, ◌+◌, ◌++◌, ◌∷◌, [], map, append-nil, arith, Some, None, option_map}
use Rattle.std.specs.List.{filter_map, range_with_len}
use Rattle.std.proofs.lemmas.List.{map-append}
use Rattle.testing_rules_model.specs.JudgedRows.{lent}
use Rattle.testing_rules_refusals.specs.Needs.{need_of}
use Rattle.testing_rules_refusals.specs.Told.{told_of, told_at, line_of_need}
use Rattle.testing_rules_refusals.proofs.Numbering.{having_more}
use Rattle.testing_rules_refusals.proofs.told.lines_of.Goals as goal
use Rattle.testing_rules_refusals.proofs.told.lines_of.Goals.{in-Some+in_ok-line_of_need+in_ok-push, in_default}

pub loop-before-preserved : goal.loop-before-preserved
loop-before-preserved c =
    let s = c.args.shown.now in
    let rows = lent s.rows.now in
    let told = line_of_need rows s.steps.now (lent s.before.now) (lent s.unstable.now) in
    let at = told_at rows s.steps.now (lent s.before.now) (lent s.unstable.now) in
    let n = c.loop-before.before in
    let next : 1 + n ≡ n + 1 = omega arith in
    elim c.match-need_at.branch [
      | in-Some+in_ok-line_of_need+in_ok-push w ↦
          let here : at (n + 1) ≡ Some (told (n + 1) (need_of w.in-Some.need)) =
          ap (option_map (told (n + 1))) (sym c.need_at.ensures ∙ ap (option_map need_of) w.in-Some.is) in
          ap (λ v. map told_of v.items) w.lines-is ∙ ap (map told_of) w.in_ok-push.ensures.items ∙ map-append told_of c.loop-before.lines.items (w.in_ok-line_of_need.field-0 ∷ [])
          ∙ ap (λ x. map told_of c.loop-before.lines.items ++ x ∷ []) w.in_ok-line_of_need.ensures ∙ ap (λ xs. xs ++ told (n + 1) (need_of w.in-Some.need) ∷ []) c.loop-before.invariant
          ∙ sym (having_more at 1 n (n + 1) (Some (told (n + 1) (need_of w.in-Some.need))) next here)
      | in_default w ↦
          let none : at (n + 1) ≡ None = ap (option_map (told (n + 1))) (sym c.need_at.ensures ∙ ap (option_map need_of) w.in_default.is) in
          ap (λ v. map told_of v.items) w.lines-is ∙ c.loop-before.invariant ∙ sym (append-nil (filter_map at (range_with_len 1 n)))
          ∙ sym (having_more at 1 n (n + 1) None next none)
    ]
