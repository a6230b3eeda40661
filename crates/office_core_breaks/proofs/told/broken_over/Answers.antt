use Rattle.std.proofs.Common.{◌≡◌, ◌∙◌, List, ap}
use Rattle.std.proofs.lemmas.Result.{IfOk-weaker}
use Rattle.testing_rules_model.specs.Boxed.{unboxed}
use Rattle.testing_rules_model.specs.JudgedRows.{lent}
use Rattle.testing_rules_model.specs.declared.suite.RowIn.{RowIn}
use Rattle.office_core_breaks.specs.Breaks.{rows_after}
use Rattle.office_core_breaks.specs.steps.Grounds.{known_on}
use Rattle.office_core_breaks.specs.Texts.{all_text}
use Rattle.office_core_breaks.proofs.told.broken_over.Goals as goal

pub returns : goal.returns
returns c =
    let a = c.args in
    let g = a.input.now in
    let unstable : List RowIn = lent g.unstable.rows.now in
    let after : List RowIn = rows_after (unboxed g.unstable.sources.now) unstable a.testing.now a.change.now in
    let new : lent c.deref.result.now ≡ after = ap lent c.deref.ensures.value ∙ c.in_ok-new.ensures c.requires.rows c.requires.group in
    IfOk-weaker c.all_lines.result _ _
    (λ text is. is ∙ ap (all_text (known_on g) unstable (lent a.old.now)) new ∙ ap (λ rows. all_text (known_on g) unstable rows after) c.requires.rows)
    c.all_lines.ensures
