use Rattle.std.proofs.Common.{sym, ap, ap₂, ◌∙◌, subst, List}
use Rattle.testing_rules_model.specs.Boxed.{unboxed}
use Rattle.testing_rules_model.specs.declared.suite.RowIn.{RowIn}
use Rattle.testing_rules_model.specs.declared.suite.SourceIn.{SourceIn}
use Rattle.testing_rules_suites.specs.steps.AfterMoves.{rows_without}
use Rattle.testing_rules_live.specs.steps.Held.{held, AreLive}
use Rattle.testing_rules_model.specs.InOrder.{AreByKey}
use Rattle.testing_rules_model.specs.JudgedRows.{lent}
use Rattle.testing_rules_moves.specs.steps.Runs.{Moment, after_removal}
use Rattle.testing_rules_suites.proofs.Showing.{by_key-none}
use Rattle.testing_rules_moves.proofs.live.LiveTesting.remove.Goals as goal

pub invariant_of-self : goal.invariant_of-self
invariant_of-self c =
    let archs = c.self.inside.archs.now in
    let unstable = lent c.self.inside.unstable.rows.now in
    record {
      order = c.self.invariant.order;
      in_order = record {
        by_name = c.remove.ensures.ordered;
        by_key = subst (λ l. AreByKey (held l)) (sym c.replace-rows.ensures.after) (subst AreByKey (sym c.new.ensures.items) by_key-none);
      };
      live = subst (λ l. AreLive l archs unstable) (sym c.replace-rows.ensures.after) tt;
    }

pub returns : goal.returns
returns c =
    let name = c.args.name.now in
    let archs = c.self.inside.archs.now in
    let us = unboxed c.self.inside.unstable.sources.now in
    let unstable = lent c.self.inside.unstable.rows.now in
    let live = subst (λ l. AreLive l archs unstable) (sym c.replace-rows.ensures.value) c.self.invariant.live in
    let left = c.in_ok-self-inside.ensures.rows archs unstable live ∙ ap (λ l. rows_without name (held l)) c.replace-rows.ensures.value in
    let with_lists : List SourceIn → List RowIn → Moment = λ ss rs. record { basis = record { archs = archs; sources = us; rows = unstable }; suite = record { sources = ss; rows = rs } } in
    let sources = rw c.as_str.ensures at c.remove.ensures.sources in
    ap₂ with_lists sources left ∙ ap (after_removal name) c.self.view_is
