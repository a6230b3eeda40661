use Rattle.std.proofs.Common.{◌≡◌, ◌∙◌, ap, map}
use Rattle.std.proofs.lemmas.Result.{IfOk-weaker}
use Rattle.testing_rules_model.specs.JudgedRows.{lent}
use Rattle.testing_rules_model.specs.Moves.{rows_on}
use Rattle.testing_rules_refusals.specs.Texts.{known_of, refusal_text}
use Rattle.testing_rules_refusals.specs.Told.{told_of, lines_of}
use Rattle.testing_rules_refusals.proofs.changes.text_of.Goals as goal

pub returns : goal.returns
returns c =
    let l = c.args.telling.now in
    let r = c.args.refusal.now in
    let text = refusal_text l.testing.now (known_of l) in
    let lines = lines_of (lent r.rows.items) r.steps.items (rows_on r.offender.arch (lent c.args.old.now)) (rows_on r.offender.arch (lent l.unstable.rows.now)) in
    IfOk-weaker c.refusal_text.result (λ t. t ≡ text (map told_of c.deref.result.now)) (λ t. t ≡ text lines)
    (λ t is. is ∙ ap text (ap (map told_of) c.deref.ensures.value ∙ c.in_ok-told.ensures)) c.refusal_text.ensures
