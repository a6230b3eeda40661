use Rattle.std.proofs.Common.{◌≡◌, IfOk, IfSome, false, subst}
use Rattle.std.specs.Option.{is_none}
use Rattle.testing_rules_items.proofs.Weaker.{if_ok_weaker}
use Rattle.testing_rules_live.specs.steps.Held.{held}
use Rattle.testing_rules_live.proofs.Unmet.{if_some_weaker}
use Rattle.testing_rules_model.specs.Boxed.{unboxed}
use Rattle.testing_rules_model.specs.JudgedRows.{lent}
use Rattle.testing_rules_model.specs.Suite.{Suite}
use Rattle.testing_rules_moves.specs.steps.Runs.{Moment, IsLacking, broken_by_move}
use Rattle.testing_rules_moves.proofs.Lacking.{lack_refused}
use Rattle.testing_rules_moves.proofs.live.LiveTesting.lack_by_move.Goals as goal

pub returns-clause-lacks : goal.returns-clause-lacks
returns-clause-lacks c =
    let group = c.args.group.now in
    let archs = c.self.inside.archs.now in
    let live = c.self.invariant.live in
    subst (λ (m : Moment). IfOk c.lack_by_move.result (λ found. IfSome found (λ clause. IsLacking group m clause.now))) c.self.view_is
    (if_ok_weaker _ _ c.lack_by_move.result (λ found h. if_some_weaker _ _ found (λ clause lacks. lacks archs live) h) c.lack_by_move.ensures)

pub returns-clause-refused : goal.returns-clause-refused
returns-clause-refused c =
    let group = c.args.group.now in
    let a = c.self.inside in
    let archs = a.archs.now in
    let t : Suite = record { sources = a.sources; rows = held a.rows } in
    let live = c.self.invariant.live in
    let refused = lack_refused (unboxed a.unstable.sources.now) (lent a.unstable.rows.now) group t c.self.invariant.order.by_key c.self.invariant.in_order.by_key archs in
    subst (λ (m : Moment). IfOk c.lack_by_move.result (λ found. IfSome found (λ clause. is_none (broken_by_move group m) ≡ false))) c.self.view_is
    (if_ok_weaker _ _ c.lack_by_move.result (λ found h. if_some_weaker _ _ found (λ clause lacks. refused clause.now (lacks archs live)) h) c.lack_by_move.ensures)
