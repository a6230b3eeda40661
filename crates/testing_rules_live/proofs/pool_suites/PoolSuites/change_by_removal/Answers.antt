use Rattle.std.proofs.Common.{subst, List, Bool, [], filter}
use Rattle.testing_rules_model.specs.declared.suite.RowIn.{RowIn}
use Rattle.testing_rules_suites.specs.steps.Changes.{stands_of}
use Rattle.testing_rules_suites.specs.steps.PresentSteps.{PoolState}
use Rattle.testing_rules_suites.specs.steps.Tried.{IsWithin, IsRemovalOf}
use Rattle.testing_rules_suites.proofs.Suites.{removal_within, removal_of}
use Rattle.testing_rules_live.proofs.pool_suites.PoolSuites.change_by_removal.Goals as goal

pub returns-clause-within : goal.returns-clause-within
returns-clause-within c =
    let pool = c.pool-pool.result.now in
    let stands = c.stands-stands.result.now in
    let name = c.args.name.now in
    let places = c.of_source.result.now in
    let leaving = filter (stands_of pool stands name) places in
    rw (c.in_ok-push_standing.ensures, c.new-leaving.ensures.items, c.new.ensures.items)
    (subst (λ (s : PoolState). IsWithin s.rows leaving []) c.self.view_is
    (subst (λ (rs : List RowIn). IsWithin rs leaving []) c.pool-pool.ensures (removal_within pool stands name places c.of_source.ensures.within)))

pub returns-clause-removal : goal.returns-clause-removal
returns-clause-removal c =
    let pool = c.pool-pool.result.now in
    let stands = c.stands-stands.result.now in
    let name = c.args.name.now in
    let places = c.of_source.result.now in
    let leaving = filter (stands_of pool stands name) places in
    rw (c.in_ok-push_standing.ensures, c.new-leaving.ensures.items)
    (subst (λ (s : PoolState). IsRemovalOf s.rows s.stands name leaving) c.self.view_is
    (subst (λ (bs : List Bool). IsRemovalOf c.self.inside.kept.rows bs name leaving) c.stands-stands.ensures.flags
    (subst (λ (rs : List RowIn). IsRemovalOf rs stands name leaving) c.pool-pool.ensures
    (removal_of pool stands name places c.of_source.ensures.complete))))
