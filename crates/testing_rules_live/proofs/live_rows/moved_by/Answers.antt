use Rattle.std.proofs.Common.{◌∙◌, sym, ap, subst, []}
use Rattle.testing_rules_model.specs.Boxed.{unboxed}
use Rattle.testing_rules_model.specs.JudgedRows.{lent}
use Rattle.testing_rules_model.specs.Suite.{Suite}
use Rattle.testing_rules_suites.specs.steps.AfterMoves.{moved_rows}
use Rattle.testing_rules_suites.specs.steps.PresentSteps.{IsLive, present_rows}
use Rattle.testing_rules_suites.proofs.Alive.{move_live, move_stands}
use Rattle.testing_rules_suites.proofs.Showing.{present_rows-by_key}
use Rattle.testing_rules_live.specs.steps.Held.{held, AreLive, IsPoolMove, IsChangeBy}
use Rattle.testing_rules_live.proofs.live_rows.moved_by.Goals as goal

pub returns-in_ok-suites-in-Pooled-clause-rows : goal.returns-in_ok-suites-in-Pooled-clause-rows
returns-in_ok-suites-in-Pooled-clause-rows c = λ archs live.
    let s = c.in-Pooled.suites in
    let us = unboxed c.args.unstable.sources.now in
    let unstable = lent c.args.unstable.rows.now in
    let group = c.args.group.now in
    let t : Suite = record { sources = []; rows = present_rows s } in
    let leaving = c.args.change.now.leaving.items in
    let coming = c.args.change.now.coming.items in
    let here : IsLive s archs unstable (present_rows s) = subst (λ l. AreLive l archs unstable) c.in-Pooled.is live in
    let is : IsPoolMove s us group c.args.change.now = subst (λ l. IsChangeBy l us group c.args.change.now) c.in-Pooled.is c.requires.change in
    let after = c.in_ok-suites-in-Pooled.ensures in
    sym (move_stands s archs us unstable group leaving coming t c.requires.order here is.moves is.offered c.in_ok-suites-in-Pooled.suites after.long after.state)
    ∙ ap (λ l. moved_rows us unstable group (held l)) (sym c.in-Pooled.is)

pub returns-in_ok-suites-in-Pooled-clause-live : goal.returns-in_ok-suites-in-Pooled-clause-live
returns-in_ok-suites-in-Pooled-clause-live c = λ archs live.
    let s = c.in-Pooled.suites in
    let us = unboxed c.args.unstable.sources.now in
    let unstable = lent c.args.unstable.rows.now in
    let group = c.args.group.now in
    let t : Suite = record { sources = []; rows = present_rows s } in
    let leaving = c.args.change.now.leaving.items in
    let coming = c.args.change.now.coming.items in
    let here : IsLive s archs unstable (present_rows s) = subst (λ l. AreLive l archs unstable) c.in-Pooled.is live in
    let is : IsPoolMove s us group c.args.change.now = subst (λ l. IsChangeBy l us group c.args.change.now) c.in-Pooled.is c.requires.change in
    let new = c.in_ok-suites-in-Pooled.suites in
    let after = c.in_ok-suites-in-Pooled.ensures in
    let stands = move_stands s archs us unstable group leaving coming t c.requires.order here is.moves is.offered new after.long after.state in
    subst (λ rows. IsLive new archs unstable rows) stands (move_live s archs us unstable group leaving coming t c.requires.order here is.moves is.offered new after.long after.state)

pub returns-in_ok-suites-in-Pooled-clause-by_key : goal.returns-in_ok-suites-in-Pooled-clause-by_key
returns-in_ok-suites-in-Pooled-clause-by_key c = present_rows-by_key c.in_ok-suites-in-Pooled.suites

pub after-requires : goal.after-requires
after-requires c =
    let is : IsPoolMove c.in-Pooled.suites (unboxed c.args.unstable.sources.now) c.args.group.now c.args.change.now =
    subst (λ l. IsChangeBy l (unboxed c.args.unstable.sources.now) c.args.group.now c.args.change.now) c.in-Pooled.is c.requires.change in
    is.within
