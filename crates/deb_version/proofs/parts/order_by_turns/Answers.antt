use Rattle.std.proofs.Common.{◌≡◌, drop, refl, sym, ◌∙◌, length, arith}
use Rattle.std.proofs.lemmas.Bool.Decides.{nat_tests}
use Rattle.deb_version.specs.Key.{part_cmp}
use Rattle.deb_version.proofs.Blocks.{part_cmp_done, answer_decides, answer_rests}
use Rattle.deb_version.proofs.Front.{decided_by_ranks, next_text, next_digits}
use Rattle.deb_version.proofs.parts.order_by_turns.Goals as goal
use Rattle.deb_version.proofs.parts.order_by_turns.Goals.{then-not-is_empty, else-not-is_empty+then-not-is_empty-2}

pub returns-then-first-second : goal.returns-then-first-second
returns-then-first-second c =
    decided_by_ranks _ _ _ _ c.front_rank-first.ensures c.front_rank-second.ensures c.cmp.result c.cmp.ensures c.if-first-second.true ∙ sym c.loop-left.invariant

pub returns-then-is_ne : goal.returns-then-is_ne
returns-then-is_ne c =
    answer_decides c.order_numbers-order.result _ (part_cmp c.first_number-first.result.rest.now c.first_number-second.result.rest.now)
    (c.loop-left.invariant
    ∙ next_digits _ _ _ _ c.front_rank-first.ensures c.front_rank-second.ensures c.if-first-second.false c.if-first-eq-END.true c.order_numbers-order.result _ _ _ _
    c.first_number-first.ensures.digits c.first_number-second.ensures.digits c.first_number-first.ensures.rest c.first_number-second.ensures.rest c.order_numbers-order.ensures)
    (sym c.is_ne.ensures ∙ c.if-is_ne.true)

pub loop-left-preserved-then-first-eq-END : goal.loop-left-preserved-then-first-eq-END
loop-left-preserved-then-first-eq-END c =
    answer_rests c.order_numbers-order.result _ (part_cmp c.first_number-first.result.rest.now c.first_number-second.result.rest.now)
    (c.loop-left.invariant
    ∙ next_digits _ _ _ _ c.front_rank-first.ensures c.front_rank-second.ensures c.if-first-second.false c.if-first-eq-END.true c.order_numbers-order.result _ _ _ _
    c.first_number-first.ensures.digits c.first_number-second.ensures.digits c.first_number-first.ensures.rest c.first_number-second.ensures.rest c.order_numbers-order.ensures)
    (sym c.is_ne.ensures ∙ c.if-is_ne.false)

pub loop-left-preserved : goal.loop-left-preserved
loop-left-preserved c =
    let left : c.behind_first-left.result.now ≡ drop 1 c.loop-left.left.now = c.behind_first-left.ensures in
    let right : c.behind_first-right.result.now ≡ drop 1 c.loop-left.right.now = c.behind_first-right.ensures in
    c.loop-left.invariant ∙ next_text _ _ _ _ c.front_rank-first.ensures c.front_rank-second.ensures c.if-first-second.false c.if-first-eq-END.false ∙ rw (left, right) refl

pub returns : goal.returns
returns c =
    let left : length c.loop-left.left.now ≡ 0 = let e = c.is_empty.ensures in let h = c.if-not-is_empty.false in grind (arith, nat_tests) in
    let right : length c.loop-left.right.now ≡ 0 = let e = c.is_empty-else-not-is_empty.ensures in let h = c.if-not-is_empty-2.false in grind (arith, nat_tests) in
    sym (c.loop-left.invariant ∙ part_cmp_done c.loop-left.left.now c.loop-left.right.now left right)
