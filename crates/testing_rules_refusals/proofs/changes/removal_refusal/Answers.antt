use Rattle.std.proofs.Common.{◌∙◌, List, ap, subst}
use Rattle.std.specs.Prelude.{IfOk, IfSome}
use Rattle.testing_rules_model.specs.JudgedRows.{lent}
use Rattle.testing_rules_model.specs.Unstable.{built_rows}
use Rattle.testing_rules_model.specs.declared.suite.RowIn.{RowIn}
use Rattle.testing_rules_refusals.specs.ToldChange.{IsToldRemoval}
use Rattle.testing_rules_refusals.proofs.changes.removal_refusal.Goals as goal

pub returns-clause-some : goal.returns-clause-some
returns-clause-some c =
    let a = c.args in
    let built = ap lent c.deref.ensures.value ∙ c.in_ok-rows.ensures.rows ∙ ap (built_rows a.archs.now) c.rows.ensures.rows in
    subst (λ (rows : List RowIn). IfOk c.removal_by_suites.result (λ told. IfSome told (λ text. IsToldRemoval a.archs.now a.facts.now.sources rows a.excuses.now a.testing.now a.name.now text)))
    built c.removal_by_suites.ensures.some
