use Rattle.std.proofs.Common.{◌≡◌, ◌∙◌, ap, Option, []}
use Rattle.testing_rules_model.specs.Boxed.{unboxed}
use Rattle.testing_rules_model.specs.JudgedRows.{lent}
use Rattle.testing_rules_model.specs.declared.update.Offender.{Offender}
use Rattle.testing_rules_model.specs.Moves.{move_group, offender_of}
use Rattle.testing_rules_suites.specs.steps.PresentSteps.{present_rows}
use Rattle.testing_rules_model.specs.Suite.{Suite}
use Rattle.testing_rules_suites.specs.steps.Tried.{first_told}
use Rattle.testing_rules_suites.proofs.Alive.{failing, move_told}
use Rattle.testing_rules_items.proofs.Weaker.{if_ok_weaker}
use Rattle.testing_rules_moves.proofs.breaks.broken_by_change.Goals as goal

pub returns-clause-offender : goal.returns-clause-offender
returns-clause-offender c =
    let s = c.args.suites.now in
    let archs = c.args.archs.now in
    let us = unboxed c.args.unstable.sources.now in
    let unstable = lent c.args.unstable.rows.now in
    let group = c.args.group.now in
    let t : Suite = record { sources = []; rows = present_rows s } in
    let leaving = c.args.change.now.leaving.items in
    let coming = c.args.change.now.coming.items in
    let change = c.requires.change in
    let new = move_group us unstable group t in
    let tells = failing group t.rows new.rows in
    let told = move_told s archs us unstable group leaving coming t c.requires.order c.requires.live change.moves change.offered
    change.within (rw c.kept.ensures at c.is_fresh.ensures c.if-not-is_fresh.false) in
    if_ok_weaker _ (λ (o : Option Offender). o ≡ offender_of archs t.rows new.rows group) c.first_lost.result
    (λ o first. first tells told ∙ ap (λ n. first_told n tells) c.requires.live.count) c.first_lost.ensures.first

pub is_fresh-requires : goal.is_fresh-requires
is_fresh-requires c = rw c.kept.ensures c.requires.change.within
