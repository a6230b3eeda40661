use Rattle.std.proofs.Common.{◌∙◌, ap, subst}
use Rattle.testing_install.specs.Closed.{marked}
use Rattle.testing_rules_items.proofs.Weaker.{if_ok_weaker}
use Rattle.testing_rules_live.specs.steps.Held.{held}
use Rattle.testing_rules_model.specs.Boxed.{unboxed}
use Rattle.testing_rules_model.specs.JudgedRows.{lent}
use Rattle.testing_rules_moves.specs.steps.Refusals.{AreRefused}
use Rattle.testing_rules_moves.specs.steps.Runs.{Moment}
use Rattle.testing_rules_moves.proofs.Remembering.{refused_none, replicate_off}
use Rattle.testing_rules_moves.proofs.live.LiveTesting.no_refusals.Goals as goal

pub returns : goal.returns
returns c =
    let a = c.self.inside in
    let m : Moment = record {
      basis = record { archs = a.archs.now; sources = unboxed a.unstable.sources.now; rows = lent a.unstable.rows.now };
      suite = record { sources = a.sources; rows = held a.rows };
    } in
    if_ok_weaker _ _ c.no_refusals.result
    (λ refusals is excuses. subst (λ (n : Moment). AreRefused n excuses refusals) c.self.view_is
    (refused_none m excuses refusals c.self.invariant.order.by_key c.self.invariant.in_order.by_key (λ k. ap (λ fs. marked fs k) is ∙ replicate_off c.args.count k)))
    c.no_refusals.ensures
