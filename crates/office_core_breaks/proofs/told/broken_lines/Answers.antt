use Rattle.std.proofs.Common.{◌≡◌, ◌∙◌, List, IfOk, ap, subst}
use Rattle.testing_rules_model.specs.JudgedRows.{lent}
use Rattle.testing_rules_model.specs.Unstable.{built_rows}
use Rattle.testing_rules_model.specs.declared.suite.RowIn.{RowIn}
use Rattle.office_core_breaks.specs.Breaks.{rows_after}
use Rattle.office_core_breaks.specs.Texts.{all_text}
use Rattle.office_core_breaks.specs.Told.{known_for}
use Rattle.office_core_breaks.proofs.told.broken_lines.Goals as goal

pub returns : goal.returns
returns c =
    let a = c.args in
    let b = a.basis.now in
    let archs = b.archs.now in
    let f = b.facts.now in
    let t = a.testing.now in
    let built : lent c.deref.result.now ≡ built_rows archs f.rows = ap lent c.deref.ensures.value ∙ c.in_ok-rows.ensures.rows ∙ ap (built_rows archs) c.rows-built.ensures.rows in
    subst (λ (rows : List RowIn). IfOk c.broken_by.result (λ text. text ≡ all_text (known_for archs f.sources b.excuses.now a.group.now) rows t.rows (rows_after f.sources rows t a.change.now)))
    built c.broken_by.ensures
