use Rattle.std.proofs.Common.{arith, ◌∙◌, sym, ap, subst, ◌<◌, ◌≤◌, length, take}
use Rattle.std.proofs.lemmas.List.{take_all}
use Rattle.std.specs.List.{slice_get}
use Rattle.testing_rules_items.proofs.Grouping.{group-some}
use Rattle.testing_rules_model.specs.JudgedRows.{row_of}
use Rattle.testing_rules_suites.specs.steps.AfterMoves.{rows_at}
use Rattle.testing_rules_moves.specs.steps.Refusals.{AreWoken, woken_by}
use Rattle.testing_rules_moves.proofs.Remembering.{woken_none, woken_more}
use Rattle.testing_rules_moves.proofs.breaks.wake_among.Goals as goal

pub loop-place-init : goal.loop-place-init
loop-place-init c = woken_none c.args.refusals.now

pub loop-place-preserved : goal.loop-place-preserved
loop-place-preserved c =
    let pool = c.args.pool.now in
    let places = c.args.coming.now in
    let i = c.loop-place.place-index in
    let below : i < length places = omega arith in
    let row = row_of c.row.result in
    let more = group-some (slice_get pool) places i 0 below row c.row.ensures in
    subst (λ rs. AreWoken rs c.args.refusals.now c.wake.new.self) (sym more)
    (woken_more (rows_at pool (take i places)) c.args.refusals.now c.loop-place.refusals c.wake.new.self row c.loop-place.invariant
    (c.wake.ensures.flags ∙ ap (λ b. woken_by c.loop-place.refusals.noted b c.loop-place.refusals.flags.items) c.deref.ensures) c.wake.ensures.noted)

pub returns : goal.returns
returns c =
    let over : length c.args.coming.now ≤ c.loop-place.place-index = omega arith in
    subst (λ ks. AreWoken (rows_at c.args.pool.now ks) c.args.refusals.now c.loop-place.refusals) (take_all c.loop-place.place-index c.args.coming.now over) c.loop-place.invariant
