use Rattle.std.proofs.Common.{sym, ◌∙◌}
use Rattle.testing_rules_items.proofs.Weaker.{if_ok_weaker}
use Rattle.testing_rules_live.proofs.Unmet.{if_some_weaker}
use Rattle.testing_rules_model.specs.Boxed.{unboxed}
use Rattle.testing_rules_model.specs.JudgedRows.{lent}
use Rattle.testing_rules_suites.specs.steps.PresentSteps.{present_rows}
use Rattle.testing_rules_moves.proofs.Lacking.{lack_told}
use Rattle.testing_rules_moves.proofs.breaks.lack_told.Goals as goal

pub returns-then-offers : goal.returns-then-offers
returns-then-offers c =
    let s = c.args.suites.now in
    let us = unboxed c.args.unstable.sources.now in
    let unstable = lent c.args.unstable.rows.now in
    let group = c.args.group.now in
    let offered = sym c.offers.ensures ∙ c.if-offers.true in
    if_ok_weaker _ _ c.lack_by_move.result
    (λ found h. if_some_weaker _ _ found (λ clause told. λ archs live. lack_told s archs us unstable group (present_rows s) live offered clause.now live.count told) h) c.lack_by_move.ensures
