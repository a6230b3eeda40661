use Rattle.std.proofs.Common.{subst, IfSome}
use Rattle.testing_rules_live.specs.steps.Held.{AreLive, IsPoolMove, IsChangeBy}
use Rattle.testing_rules_suites.specs.steps.AfterMoves.{rows_at}
use Rattle.testing_rules_suites.specs.steps.PresentSteps.{IsLive, present_rows}
use Rattle.testing_rules_suites.specs.steps.Tried.{IsWithin}
use Rattle.testing_rules_moves.specs.steps.Refusals.{IsWithinRows}
use Rattle.testing_rules_moves.proofs.Lacking.{rows_came}
use Rattle.testing_rules_moves.proofs.Remembering.{woken_all, woken_of_part}
use Rattle.testing_rules_moves.proofs.breaks.wake_by_change.Goals as goal

pub wake_among-requires : goal.wake_among-requires
wake_among-requires c =
    let s = c.in-Pooled.suites in
    let change = c.in-Some.change in
    let of_rows = subst (λ o. IfSome o (IsWithinRows c.args.rows.now)) c.in-Some.is c.requires in
    let within : IsWithin s.rows change.leaving.items change.coming.items = subst (λ l. IsWithinRows l change) c.in-Pooled.is of_rows in
    rw (c.pool.ensures, c.kept.ensures, c.deref.ensures) within.coming_within

pub returns-in-Some : goal.returns-in-Some
returns-in-Some c = λ archs sources unstable group live moves.
    let old = c.args.refusals.now in
    let new = c.wake_among.new.refusals in
    let s = c.in-Pooled.suites in
    let change = c.in-Some.change in
    let here : IsLive s archs unstable (present_rows s) = subst (λ l. AreLive l archs unstable) c.in-Pooled.is live in
    let of_rows = subst (λ o. IfSome o (IsChangeBy c.args.rows.now sources group)) c.in-Some.is moves in
    let is : IsPoolMove s sources group change = subst (λ l. IsChangeBy l sources group change) c.in-Pooled.is of_rows in
    let woken = rw (c.pool.ensures, c.kept.ensures, c.deref.ensures) at c.wake_among.ensures in
    woken_of_part (rows_at s.rows change.coming.items) _ old new
    (rows_came s archs sources unstable group (present_rows s) here is.offered change.leaving.items change.coming.items is.moves) woken

pub returns : goal.returns
returns c = λ archs sources unstable group live moves. woken_all _ c.args.refusals.now c.forget.new.self c.forget.ensures.flags c.forget.ensures.noted
