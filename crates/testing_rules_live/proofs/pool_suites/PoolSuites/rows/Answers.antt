use Rattle.std.proofs.Common.{◌≡◌, ◌∙◌, ap, []}
use Rattle.testing_rules_suites.specs.steps.AfterMoves.{with_rows, rows_at}
use Rattle.testing_rules_model.specs.JudgedRows.{lent}
use Rattle.testing_rules_suites.specs.steps.PresentSteps.{PoolState, set_places, present_rows}
use Rattle.testing_rules_suites.proofs.Showing.{standing_at}
use Rattle.testing_rules_items.proofs.Weaker.{if_ok_weaker}
use Rattle.testing_rules_live.proofs.pool_suites.PoolSuites.rows.Goals as goal

pub returns : goal.returns
returns c =
    let kept = c.self.inside.kept in
    let s : PoolState = record { rows = kept.rows; candidates = c.self.inside.candidates.keys; first = c.self.inside.first; stands = kept.stands; archs = kept.archs } in
    if_ok_weaker (λ rows. lent rows.items ≡ with_rows (rows_at s.rows (set_places s.stands)) []) (λ rows. lent rows.items ≡ present_rows c.args.self.now) c.rows.result
    (λ rows is. is ∙ standing_at s ∙ ap present_rows c.self.view_is) c.rows.ensures
