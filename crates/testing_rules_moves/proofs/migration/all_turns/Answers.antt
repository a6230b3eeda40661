use Rattle.std.proofs.Common.{◌≡◌, ◌∙◌, ap, subst}
use Rattle.std.specs.Prelude.{IfOk, List}
use Rattle.testing_rules_model.specs.declared.suite.RowIn.{RowIn}
use Rattle.testing_rules_model.specs.JudgedRows.{lent}
use Rattle.testing_rules_model.specs.Unstable.{built_rows}
use Rattle.testing_rules_model.specs.Updates.{update_by}
use Rattle.testing_rules_moves.proofs.migration.all_turns.Goals as goal

pub returns : goal.returns
returns c =
    let archs = c.args.archs.now in
    let facts = c.args.facts.now in
    let rows : lent c.deref.result.now ≡ built_rows archs facts.rows = ap lent c.deref.ensures.value ∙ c.in_ok-rows.ensures.rows ∙ ap (built_rows archs) c.rows.ensures.rows in
    subst (λ (rs : List RowIn). IfOk c.turns_over.result (λ o. record { decisions = o.0.items; suite = o.1 } ≡ update_by archs facts.sources rs facts.hints facts.unhints c.args.excuses.now c.args.testing.now)) rows
    c.turns_over.ensures
