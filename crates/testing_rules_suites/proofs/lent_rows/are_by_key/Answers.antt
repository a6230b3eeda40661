use Rattle.std.proofs.Common.{arith, ◌≡◌, ◌∙◌, sym, ap, subst, ◌+◌, ◌<◌, ◌++◌, ◌∷◌, [], length, take, get_or}
use Rattle.std.proofs.lemmas.List.{map-append, take_more}
use Rattle.testing_rules_model.specs.InOrder.{AreByKey}
use Rattle.testing_rules_model.specs.JudgedRows.{lent, row_of}
use Rattle.testing_rules_suites.proofs.OneSort.{by_key-behind}
use Rattle.testing_rules_suites.proofs.Showing.{by_key-none}
use Rattle.testing_rules_suites.proofs.lent_rows.are_by_key.Goals as goal

pub loop-place-init : goal.loop-place-init
loop-place-init c = by_key-none

pub loop-place-preserved : goal.loop-place-preserved
loop-place-preserved c =
    let rows = c.args.rows.now in
    let i = c.loop-place.place in
    let row = c.index-rows-place.result in
    let before = c.split_at.result.0.now in
    let below : i < length rows = omega arith in
    let front : before ≡ take i rows = c.split_at.ensures.front in
    let sorted : AreByKey (lent before) = subst (λ rs. AreByKey (lent rs)) (sym front) c.loop-place.invariant in
    let high = c.is_behind.ensures c.if-not-is_behind.false in
    let more : lent (take (i + 1) rows) ≡ lent before ++ row_of row ∷ [] =
    ap lent (take_more rows i row below) ∙ map-append row_of (take i rows) (get_or rows i row ∷ [])
    ∙ ap (λ r. lent (take i rows) ++ row_of r ∷ []) (sym c.index-rows-place.is) ∙ ap (λ rs. lent rs ++ row_of row ∷ []) (sym front) in
    subst AreByKey (sym more) (by_key-behind (lent before) (row_of row) sorted high)
