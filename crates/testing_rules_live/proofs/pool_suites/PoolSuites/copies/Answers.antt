use Rattle.std.proofs.Common.{◌≡◌, ◌∙◌, ap, []}
use Rattle.testing_rules_suites.specs.steps.AfterMoves.{with_rows, rows_at}
use Rattle.testing_rules_suites.specs.steps.PresentSteps.{PoolState, set_places, present_rows}
use Rattle.testing_rules_suites.proofs.Showing.{standing_at}
use Rattle.testing_rules_items.proofs.Weaker.{if_ok_weaker}
use Rattle.testing_rules_live.proofs.pool_suites.PoolSuites.copies.Goals as goal

pub returns : goal.returns
returns c =
    let kept = c.self.inside.kept in
    let s : PoolState = record { rows = kept.rows; candidates = c.self.inside.candidates.keys; first = c.self.inside.first; stands = kept.stands; archs = kept.archs } in
    if_ok_weaker (λ copies. copies.items ≡ with_rows (rows_at s.rows (set_places s.stands)) []) (λ copies. copies.items ≡ present_rows c.args.self.now) c.copies.result
    (λ copies is. is ∙ standing_at s ∙ ap present_rows c.self.view_is) c.copies.ensures
