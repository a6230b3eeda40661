use Rattle.std.proofs.Common.{◌∙◌, List, ap, subst}
use Rattle.std.specs.Prelude.{IfOk, IfSome}
use Rattle.testing_rules_model.specs.JudgedRows.{lent}
use Rattle.testing_rules_model.specs.Unstable.{built_rows}
use Rattle.testing_rules_model.specs.declared.suite.RowIn.{RowIn}
use Rattle.testing_rules_refusals.specs.Stuck.{IsStuckText}
use Rattle.testing_rules_refusals.proofs.stuck.stuck_text.Goals as goal

pub returns : goal.returns
returns c =
    let b = c.args.behind.now in
    let built = ap lent c.deref.ensures.value ∙ c.in_ok-rows.ensures.rows ∙ ap (built_rows b.archs.now) c.rows.ensures.rows in
    subst (λ (rows : List RowIn). IfOk c.text_over_rows.result (λ found. IfSome found (IsStuckText b.archs.now b.facts.now.sources rows b.excuses.now b.testing.now c.args.source.now)))
    built c.text_over_rows.ensures
