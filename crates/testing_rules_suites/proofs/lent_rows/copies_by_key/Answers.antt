use Rattle.std.proofs.Common.{arith, ◌≡◌, ◌∙◌, sym, ap, subst, ◌<◌, ◌++◌, ◌∷◌, [], Err, length, ◌≤◌}
use Rattle.std.specs.List.{slice_get}
use Rattle.std.specs.List.Sorted.{IsBinarySearchResult}
use Rattle.std.proofs.lemmas.List.{take_all}
use Rattle.testing_rules_model.specs.InOrder.{AreByKey}
use Rattle.testing_rules_model.specs.JudgedRows.{row_of}
use Rattle.testing_rules_model.specs.Moves.{row_cmp, row_key}
use Rattle.testing_rules_items.proofs.Grouping.{group-some}
use Rattle.testing_rules_suites.proofs.OneSort.{by_key-behind}
use Rattle.testing_rules_suites.proofs.Showing.{by_key-none}
use Rattle.testing_rules_suites.proofs.lent_rows.copies_by_key.Goals as goal

pub loop-place-init : goal.loop-place-init
loop-place-init c = (c.in_ok-copies.ensures.items, subst AreByKey (sym c.in_ok-copies.ensures.items) by_key-none)

pub loop-place-preserved : goal.loop-place-preserved
loop-place-preserved c =
    let pool = c.args.pool.now in
    let places = c.args.places.now in
    let i = c.loop-place.place-index in
    let below : i < length places = omega arith in
    let so_far = c.loop-place.copies.items in
    let row = row_of c.row-row.result in
    let high = c.is_above_last.ensures c.if-not-is_above_last.false in
    let sorted = by_key-behind so_far row c.loop-place.invariant.1 (subst (λ rs. IsBinarySearchResult (λ r. row_cmp (row_key r) (row_key row)) rs (Err (length rs))) c.deref.ensures.value high) in
    let more : c.push.new.self.items ≡ so_far ++ row ∷ [] = c.in_ok-push.ensures.items ∙ ap (λ r. so_far ++ r ∷ []) c.in_ok-copy.ensures in
    (more ∙ ap (λ rs. rs ++ row ∷ []) c.loop-place.invariant.0 ∙ sym (group-some (slice_get pool) places i 0 below row c.row-row.ensures), subst AreByKey (sym more) sorted)

pub returns-clause-copies : goal.returns-clause-copies
returns-clause-copies c =
    let over : length c.args.places.now ≤ c.loop-place.place-index = omega arith in
    rw (take_all c.loop-place.place-index c.args.places.now over) at c.loop-place.invariant.0

pub returns-clause-ordered : goal.returns-clause-ordered
returns-clause-ordered c = c.loop-place.invariant.1
