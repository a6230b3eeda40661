use Rattle.std.proofs.Common.{◌≡◌, ◌∙◌, List, None, IfNone, ap, subst}
use Rattle.std.specs.Prelude.{IfOk, IfSome}
use Rattle.testing_rules_model.specs.JudgedRows.{lent}
use Rattle.testing_rules_model.specs.Moves.{move_group, offender_of}
use Rattle.testing_rules_model.specs.Unstable.{built_rows}
use Rattle.testing_rules_model.specs.declared.suite.RowIn.{RowIn}
use Rattle.testing_rules_refusals.specs.ToldChange.{IsToldMove}
use Rattle.testing_rules_refusals.proofs.changes.group_refusal.Goals as goal

pub returns-clause-some : goal.returns-clause-some
returns-clause-some c =
    let a = c.args in
    let built = ap lent c.deref.ensures.value ∙ c.in_ok-rows.ensures.rows ∙ ap (built_rows a.archs.now) c.rows.ensures.rows in
    subst (λ (rows : List RowIn). IfOk c.group_by_suites.result (λ told. IfSome told (λ text. IsToldMove a.archs.now a.facts.now.sources rows a.excuses.now a.testing.now a.group.now text)))
    built c.group_by_suites.ensures.some

pub returns-clause-none : goal.returns-clause-none
returns-clause-none c =
    let a = c.args in
    let t = a.testing.now in
    let built = ap lent c.deref.ensures.value ∙ c.in_ok-rows.ensures.rows ∙ ap (built_rows a.archs.now) c.rows.ensures.rows in
    subst (λ (rows : List RowIn). IfOk c.group_by_suites.result (λ told. IfNone told (offender_of a.archs.now t.rows (move_group a.facts.now.sources rows a.group.now t).rows a.group.now ≡ None)))
    built c.group_by_suites.ensures.none
