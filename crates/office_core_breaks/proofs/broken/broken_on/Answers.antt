use Rattle.std.proofs.Common.{◌≡◌, ◌∙◌, ℕ, List, filter, map, ap}
use Rattle.std.specs.List.{list_any}
use Rattle.std.specs.Str.{bytes_eq}
use Rattle.testing_rules_items.specs.Words.{all_place}
use Rattle.testing_rules_model.specs.JudgedRows.{lent}
use Rattle.testing_rules_model.specs.Moves.{RowAnswer, fails_on, judged_on}
use Rattle.testing_rules_reports.specs.steps.LentLines.{has_line}
use Rattle.testing_rules_suites.specs.steps.JudgedRows.{answers}
use Rattle.office_core_breaks.specs.steps.Worked.{working_names}
use Rattle.office_core_breaks.proofs.Working.{same_failing}
use Rattle.office_core_breaks.proofs.broken.broken_on.Goals as goal

pub returns : goal.returns
returns c =
    let a = c.args in
    let before : List RowAnswer = judged_on a.arch (lent a.old.now) in
    let after : List RowAnswer = judged_on a.arch (lent a.new.now) in
    let own = c.in_ok-own.own.keys in
    let all = c.in_ok-all.all.keys in
    let owns : (name : List ℕ) → has_line own name ≡ list_any (bytes_eq name) (working_names a.arch before) =
    λ name. c.in_ok-own.ensures name ∙ ap (λ xs. list_any (bytes_eq name) (working_names a.arch xs)) (ap answers c.deref.ensures.value ∙ c.in_ok-before.ensures) in
    let alls : (name : List ℕ) → has_line all name ≡ list_any (bytes_eq name) (working_names all_place before) =
    λ name. c.in_ok-all.ensures name ∙ ap (λ xs. list_any (bytes_eq name) (working_names all_place xs)) (ap answers c.deref-2.ensures.value ∙ c.in_ok-before.ensures) in
    let now : answers c.deref-3.result.now ≡ after = ap answers c.deref-3.ensures.value ∙ c.in_ok-after.ensures in
    c.in_ok-rows.ensures
    ∙ ap (map (λ (j : RowAnswer). j.row)) (same_failing a.arch a.group.now before own all owns alls (answers c.deref-3.result.now))
    ∙ ap (λ xs. map (λ (j : RowAnswer). j.row) (filter (fails_on a.arch a.group.now before) xs)) now
