use Rattle.std.proofs.Common.{◌≡◌, ◌++◌, List, drop, append_assoc, string_bytes, take, ap, ◌∙◌}
use Rattle.std.specs.List.{flat_map}
use Rattle.testing_rules_items.specs.Words.{Text}
use Rattle.testing_rules_model.specs.JudgedRows.{lent}
use Rattle.testing_rules_model.specs.declared.suite.LentRow.{LentRow}
use Rattle.testing_rules_model.specs.declared.suite.RowIn.{RowIn}
use Rattle.office_core_breaks.specs.steps.Grounds.{known_on}
use Rattle.office_core_breaks.specs.Texts.{row_text, untold_text}
use Rattle.office_core_breaks.proofs.Untold.{first_lent}
use Rattle.office_core_breaks.proofs.lines.push_first.Goals as goal

pub returns : goal.returns
returns c =
    let a = c.args in
    let g = a.input.now in
    let k = known_on g in
    let unstable : List RowIn = lent g.unstable.rows.now in
    let old : Text = string_bytes a.text.now in
    let f : RowIn → Text = row_text k unstable a.arch in
    let told : c.split_at.result.0.now ≡ take 100 a.rows.now = c.split_at.ensures.front ∙ c.told_count.ensures.told in
    let untold : c.split_at.result.1.now ≡ drop 100 a.rows.now = c.split_at.ensures.back ∙ c.told_count.ensures.untold in
    c.in_ok-push_untold.ensures ∙ ap (λ (x : Text). x ++ untold_text (lent c.split_at.result.1.now)) c.in_ok-push_each_broken.ensures
    ∙ append_assoc old (flat_map f (lent c.split_at.result.0.now)) (untold_text (lent c.split_at.result.1.now))
    ∙ ap (λ (rows : List LentRow). old ++ (flat_map f (lent rows) ++ untold_text (lent c.split_at.result.1.now))) told
    ∙ ap (λ (rows : List LentRow). old ++ (flat_map f (lent (take 100 a.rows.now)) ++ untold_text (lent rows))) untold
    ∙ ap (λ (x : Text). old ++ x) (first_lent k unstable a.arch a.rows.now)
