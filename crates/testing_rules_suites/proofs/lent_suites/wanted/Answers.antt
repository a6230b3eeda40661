use Rattle.std.proofs.Common.{arith, sym, ap, subst, ◌∙◌, ◌<◌, ◌≤◌, ◌++◌, ◌∷◌, length, take, [], List}
use Rattle.std.proofs.lemmas.List.{take_all, take_more}
use Rattle.testing_rules_model.specs.JudgedRows.{lent}
use Rattle.testing_rules_model.specs.declared.suite.LentRow.{LentRow}
use Rattle.testing_rules_model.specs.declared.suite.RowIn.{RowIn}
use Rattle.testing_rules_suites.specs.steps.Standing.{AreWanted}
use Rattle.testing_rules_suites.proofs.StandingFacts.{found_within}
use Rattle.testing_rules_suites.proofs.lent_suites.wanted.Goals as goal

pub loop-row-init : goal.loop-row-init
loop-row-init c = subst (λ (ls : List LentRow). AreWanted c.args.pool.now [] c.args.flags.now.items (lent ls)) (sym c.new-lacking.ensures.items) c.requires

pub want-requires : goal.want-requires
want-requires c = found_within c.args.pool.now c.loop-row.flags.items _ c.look_for-found.result.place c.loop-row.invariant.long c.look_for-found.ensures

pub loop-row-preserved : goal.loop-row-preserved
loop-row-preserved c =
    let rows = c.args.rows.now in
    let i = c.loop-row.row-index in
    let below : i < length rows = omega arith in
    let row : RowIn = c.row-item.result in
    let more = take_more rows i row below ∙ ap (λ (r : RowIn). take i rows ++ r ∷ []) (sym c.row-item.is) in
    subst (λ (taken : List RowIn). AreWanted c.args.pool.now taken c.want.new.flags.items (lent c.want.new.lacking.items)) (sym more)
    (c.in_ok-want.ensures c.args.pool.now (take i rows) c.look_for-found.ensures c.loop-row.invariant)

pub returns : goal.returns
returns c =
    let over : length c.args.rows.now ≤ c.loop-row.row-index = omega arith in
    rw (take_all c.loop-row.row-index c.args.rows.now over) at c.loop-row.invariant
