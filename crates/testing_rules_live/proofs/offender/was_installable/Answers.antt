use Rattle.std.proofs.Common.{arith, ◌≡◌, ◌∙◌, sym, ap, ◌&&◌, true, Bool, ◌<◌, length}
use Rattle.std.proofs.lemmas.List.Folds.{list_any_at}
use Rattle.testing_rules_model.specs.Moves.{is_same_key, RowAnswer as Answer}
use Rattle.testing_rules_suites.specs.steps.JudgedRows.{answer}
use Rattle.testing_rules_model.specs.JudgedRows.{row_of}
use Rattle.testing_rules_suites.specs.declared.offender.RowAnswer.{RowAnswer}
use Rattle.testing_rules_items.proofs.Tests.{list_any-map, both_true}
use Rattle.testing_rules_live.proofs.offender.was_installable.Goals as goal

pub returns-then-is_same_key : goal.returns-then-is_same_key
returns-then-is_same_key c =
    let row = row_of c.args.row.now in
    let j = c.judged-item.result in
    let test : RowAnswer → Bool = λ j. j.is_installable && is_same_key (row_of j.row) row in
    let same : is_same_key (row_of j.row) row ≡ true = sym c.if-is_same_key.ensures in
    let passes : test j ≡ true = both_true c.if-judged.true same in
    let below : c.loop-judged.judged-index < length c.args.before.now = omega arith in
    sym (list_any-map (λ (j : Answer). j.is_installable && is_same_key j.row row) answer c.args.before.now
    ∙ list_any_at test c.args.before.now c.loop-judged.judged-index j below (ap test (sym c.judged-item.is) ∙ passes))
