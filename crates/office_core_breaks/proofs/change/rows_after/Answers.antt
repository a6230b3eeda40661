use Rattle.std.proofs.Common.{◌≡◌, ◌∙◌, List, filter, not, ap}
use Rattle.testing_rules_items.specs.Words.{Text}
use Rattle.testing_rules_model.specs.Boxed.{unboxed}
use Rattle.testing_rules_model.specs.JudgedRows.{lent}
use Rattle.testing_rules_model.specs.Moves.{is_row_of}
use Rattle.testing_rules_model.specs.declared.suite.RowIn.{RowIn}
use Rattle.testing_rules_suites.specs.steps.AfterMoves.{moved_rows}
use Rattle.office_core_breaks.specs.Breaks.{coming, leaving}
use Rattle.office_core_breaks.proofs.change.rows_after.Goals as goal

pub returns : goal.returns
returns c =
    let a = c.args in
    let sources = unboxed a.unstable.sources.now in
    let unstable = lent a.unstable.rows.now in
    let left : List Text → List RowIn → List RowIn = λ names rows. filter (λ (r : RowIn). not (is_row_of names r)) rows in
    let moved : lent c.deref.result.now ≡ moved_rows sources unstable a.group.now (lent a.rows.now) = ap lent c.deref.ensures.value ∙ c.in_ok-moved.ensures.rows in
    let gone : c.deref-2.result.now ≡ leaving a.testing.now a.change.now = c.deref-2.ensures.value ∙ c.in_ok-leaving.ensures in
    λ old group.
    c.in_ok-rows_without.ensures ∙ ap (λ names. left names (lent c.deref.result.now)) gone ∙ ap (left (leaving a.testing.now a.change.now)) moved
    ∙ ap (λ names. left (leaving a.testing.now a.change.now) (moved_rows sources unstable names (lent a.rows.now))) group
    ∙ ap (λ rows. left (leaving a.testing.now a.change.now) (moved_rows sources unstable (coming sources a.testing.now a.change.now) rows)) old
