use Rattle.std.proofs.Common.{◌≡◌, ◌∙◌, ap, subst}
use Rattle.std.specs.Prelude.{IfOk, List}
use Rattle.testing_rules_model.specs.declared.suite.RowIn.{RowIn}
use Rattle.testing_rules_model.specs.JudgedRows.{lent}
use Rattle.testing_rules_suites.specs.steps.AfterMoves.{rows_without}
use Rattle.testing_rules_live.proofs.live_rows.list_without.Goals as goal

pub returns : goal.returns
returns c =
    let name = c.args.name.now in
    let is : lent c.deref-2.result.now ≡ rows_without name c.args.rows.now =
    ap lent c.deref-2.ensures.value ∙ c.in_ok-left.ensures ∙ ap (rows_without name) (ap lent c.deref.ensures.value ∙ c.in_ok-rows.ensures) in
    subst (λ (rs : List RowIn). IfOk c.copy_lent.result (λ copies. copies.items ≡ rs)) is c.copy_lent.ensures
