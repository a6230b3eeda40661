use Rattle.std.proofs.Common.{◌≡◌, ◌∙◌, refl, ap, Bool, true, false, ◌||◌, List, [], ◌∷◌, not, filter}
use Rattle.std.specs.Str.{bytes_eq}
use Rattle.std.proofs.lemmas.List.Elements.{filter_agree}
use Rattle.testing_rules_items.proofs.Weaker.{if_ok_weaker}
use Rattle.testing_rules_items.specs.Words.{Text}
use Rattle.testing_rules_model.specs.declared.suite.RowIn.{RowIn}
use Rattle.testing_rules_model.specs.JudgedRows.{lent}
use Rattle.testing_rules_model.specs.Moves.{is_row_of}
use Rattle.testing_rules_suites.specs.steps.AfterMoves.{rows_without}
use Rattle.testing_rules_live.proofs.lent_rows.rows_without.Goals as goal

or_false : (b : Bool) → (b || false) ≡ b
or_false true = refl
or_false false = refl

-- the rows that name no source of a group of one
of_one : (name : Text) (rows : List RowIn) → filter (λ r. not (is_row_of (name ∷ []) r)) rows ≡ rows_without name rows
of_one name rows =
    filter_agree (λ (r : RowIn). not (is_row_of (name ∷ []) r)) (λ (r : RowIn). not (bytes_eq r.binary.source name))
    (λ r. ap not (or_false (bytes_eq r.binary.source name))) rows

pub returns : goal.returns
returns c =
    let rows = lent c.args.rows.now in
    let name = c.args.name.now in
    if_ok_weaker (λ kept. lent kept.items ≡ filter (λ r. not (is_row_of c.from_ref.result.now r)) rows) (λ kept. lent kept.items ≡ rows_without name rows) c.other_rows.result
    (λ kept is. is ∙ ap (λ group. filter (λ (r : RowIn). not (is_row_of group r)) rows) c.from_ref.ensures.value ∙ of_one name rows) c.other_rows.ensures
