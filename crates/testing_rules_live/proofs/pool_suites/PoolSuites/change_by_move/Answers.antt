use Rattle.std.proofs.Common.{◌∙◌, sym, ap, subst, ◌<◌, ◌++◌, length, List, Bool}
use Rattle.std.specs.List.{All}
use Rattle.testing_rules_model.specs.Boxed.{unboxed}
use Rattle.testing_rules_model.specs.declared.suite.RowIn.{RowIn}
use Rattle.testing_rules_suites.specs.steps.Changes.{gives_way_to, AreThose, IsMoveOf}
use Rattle.testing_rules_suites.specs.steps.PresentSteps.{PoolState}
use Rattle.testing_rules_model.specs.Moves.{group_sources}
use Rattle.testing_rules_suites.proofs.Changing.{coming_within, all_that_leave}
use Rattle.testing_rules_suites.proofs.Suites.{move_within}
use Rattle.testing_rules_live.proofs.pool_suites.PoolSuites.change_by_move.Goals as goal

pub giving_way-requires-clause-places : goal.giving_way-requires-clause-places
giving_way-requires-clause-places c =
    let pool = c.pool-pool.result.now in
    subst (All (λ k. k < length pool)) (sym c.deref.ensures)
    (coming_within pool c.self.inside.first (group_sources (unboxed c.args.sources.now) c.args.group.now) c.in_ok-coming.coming.items c.in_ok-coming.ensures)

moved : goal.returns-clause-moves
moved c =
    let pool = c.pool-pool.result.now in
    let stands = c.stands-stands.result.now in
    let first = c.self.inside.first in
    let us = unboxed c.args.sources.now in
    let group = c.args.group.now in
    let own = c.in_ok-leaving.leaving.items in
    let given = c.in_ok-giving_way.giving_way.items in
    let leaving = c.extend_from_slice.new.self.items in
    let coming = c.in_ok-coming.coming.items in
    let gives_way = subst (λ ks. AreThose (gives_way_to pool stands) ks given) c.deref.ensures c.in_ok-giving_way.ensures in
    let items = c.in_ok-extend_from_slice.ensures.ok ∙ ap (λ ks. own ++ ks) c.deref-2.ensures in
    subst (λ (s : PoolState). IsMoveOf s.rows s.stands s.first us group leaving coming) c.self.view_is
    (subst (λ (bs : List Bool). IsMoveOf c.self.inside.kept.rows bs first us group leaving coming) c.stands-stands.ensures.flags
    (subst (λ (rs : List RowIn). IsMoveOf rs stands first us group leaving coming) c.pool-pool.ensures
    (subst (λ ks. IsMoveOf pool stands first us group ks coming) (sym items)
    (all_that_leave pool stands first us group own given coming c.in_ok-coming.ensures c.in_ok-leaving.ensures gives_way))))

pub returns-clause-moves : goal.returns-clause-moves
returns-clause-moves c = moved c

pub returns-clause-within : goal.returns-clause-within
returns-clause-within c =
    let s = c.args.self.now in
    move_within s.rows s.stands s.first (unboxed c.args.sources.now) c.args.group.now c.extend_from_slice.new.self.items c.in_ok-coming.coming.items (moved c)
