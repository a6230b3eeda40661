use Rattle.std.proofs.Common.{◌<◌, sym, subst, length, List}
use Rattle.std.specs.List.{All}
use Rattle.testing_rules_live.specs.steps.Lacks.{IsLack}
use Rattle.testing_rules_live.proofs.Unmet.{if_some_weaker}
use Rattle.testing_rules_model.specs.Boxed.{unboxed}
use Rattle.testing_rules_model.specs.declared.suite.RowIn.{RowIn}
use Rattle.testing_rules_model.specs.Moves.{group_sources}
use Rattle.testing_rules_suites.specs.steps.Changes.{comes_at, AreThose}
use Rattle.testing_rules_suites.specs.steps.PresentSteps.{PoolState}
use Rattle.testing_rules_suites.proofs.Changing.{coming_within}
use Rattle.testing_rules_live.proofs.pool_suites.PoolSuites.lack_by_move.Goals as goal

pub lack_among-requires : goal.lack_among-requires
lack_among-requires c =
    let rows = c.self.inside.kept.rows in
    let first = c.self.inside.first in
    let sources = group_sources (unboxed c.args.sources.now) c.args.group.now in
    let coming = c.in_ok-coming.coming.items in
    let arrive = subst (λ (pool : List RowIn). AreThose (comes_at pool first) sources coming) c.pool.ensures c.in_ok-coming.ensures in
    record { coming = subst (λ ks. All (λ k. k < length rows) ks) (sym c.deref.ensures) (coming_within rows first sources coming arrive) }

pub returns : goal.returns
returns c =
    let first = c.self.inside.first in
    let sources = group_sources (unboxed c.args.sources.now) c.args.group.now in
    let coming = c.in_ok-coming.coming.items in
    let arrive = subst (λ (pool : List RowIn). AreThose (comes_at pool first) sources coming) c.pool.ensures c.in_ok-coming.ensures in
    if_some_weaker _ _ c.lack_among.result (λ clause lack. record {
      coming = coming;
      arrive = subst (λ (s : PoolState). AreThose (comes_at s.rows s.first) sources coming) c.self.view_is arrive;
      lack = subst (λ (s : PoolState). IsLack s.archs s.rows s.stands coming clause.now) c.self.view_is
          (subst (λ ks. IsLack c.self.inside.kept.archs c.self.inside.kept.rows c.self.inside.kept.stands ks clause.now) c.deref.ensures lack);
    }) c.lack_among.ensures
