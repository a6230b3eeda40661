use Rattle.std.proofs.Common.{arith, ◌∙◌, sym, ap, ◌<◌, ◌≤◌, length}
use Rattle.std.proofs.lemmas.List.{take_all}
use Rattle.std.proofs.lemmas.List.Folds.{list_any_at}
use Rattle.std.specs.Str.{bytes_eq}
use Rattle.testing_rules_model.specs.JudgedRows.{row_of}
use Rattle.testing_rules_live.proofs.row_tests.is_row_of.Goals as goal

pub returns-then-is_of : goal.returns-then-is_of
returns-then-is_of c =
    let names = bytes_eq (row_of c.args.row.now).binary.source in
    let i = c.loop-name.name-index in
    let d = c.name-item.result in
    let below : i < length c.args.group.now = omega arith in
    let here = ap names (sym c.name-item.is ∙ sym c.as_str.ensures) ∙ sym c.is_of.ensures ∙ c.if-is_of.true in
    sym (list_any_at names c.args.group.now i d below here)

pub returns : goal.returns
returns c =
    let over : length c.args.group.now ≤ c.loop-name.name-index = omega arith in
    sym (rw (take_all c.loop-name.name-index c.args.group.now over) at c.loop-name.invariant)
