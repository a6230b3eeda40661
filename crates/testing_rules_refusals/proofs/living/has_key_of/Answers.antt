use Rattle.std.proofs.Common.{arith, ◌≡◌, ◌∙◌, sym, ap, ◌<◌, ◌≤◌, length, Bool, true}
use Rattle.std.proofs.lemmas.List.{take_all}
use Rattle.std.proofs.lemmas.List.Folds.{list_any_at}
use Rattle.testing_rules_items.proofs.Tests.{list_any-map}
use Rattle.testing_rules_model.specs.Moves.{is_same_key}
use Rattle.testing_rules_model.specs.JudgedRows.{row_of}
use Rattle.testing_rules_model.specs.declared.suite.LentRow.{LentRow}
use Rattle.testing_rules_refusals.proofs.living.has_key_of.Goals as goal

pub returns-then-is_same_key : goal.returns-then-is_same_key
returns-then-is_same_key c =
    let row = row_of c.args.row.now in
    let rows = c.args.rows.now in
    let i = c.loop-other.other-index in
    let d = c.other-item.result in
    let test : LentRow → Bool = λ r. is_same_key row (row_of r) in
    let below : i < length rows = omega arith in
    let passes : test d ≡ true = sym c.is_same_key.ensures ∙ c.if-is_same_key.true in
    sym (list_any-map (is_same_key row) row_of rows ∙ list_any_at test rows i d below (ap test (sym c.other-item.is) ∙ passes))

pub returns : goal.returns
returns c =
    let over : length c.args.rows.now ≤ c.loop-other.other-index = omega arith in
    sym (rw (take_all c.loop-other.other-index c.args.rows.now over) at c.loop-other.invariant)
