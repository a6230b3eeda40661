use Rattle.std.proofs.Common.{◌∙◌, sym, ap, ◌++◌, append_assoc, map, filter}
use Rattle.std.proofs.lemmas.Result.{IfOk-from_err}
use Rattle.std.specs.List.{range_with_len}
use Rattle.testing_rules_model.specs.JudgedRows.{lent}
use Rattle.testing_rules_items.specs.Words.{only_if}
use Rattle.testing_rules_model.specs.Excuses.{is_missing_on}
use Rattle.testing_rules_model.specs.declared.excuse.Reason.TheVariants.{MissingOn}
use Rattle.testing_rules_items.proofs.Missing.{passing-more}
use Rattle.testing_rules_excuses.proofs.reasons.push_missing.Goals as goal

pub loop-arch-preserved : goal.loop-arch-preserved
loop-arch-preserved c =
    let old = c.args.reasons.now.items in
    let p = is_missing_on (lent c.args.rows.now) c.args.upload.now in
    let a = c.loop-arch.arch in
    c.in_ok-push_if.ensures
    ∙ ap (λ xs. xs ++ only_if c.is_missing_on.result (MissingOn a)) c.loop-arch.invariant
    ∙ append_assoc old (map (λ k. MissingOn k) (filter p (range_with_len 0 a))) (only_if c.is_missing_on.result (MissingOn a))
    ∙ ap (λ b. old ++ (map (λ k. MissingOn k) (filter p (range_with_len 0 a)) ++ only_if b (MissingOn a))) c.is_missing_on.ensures
    ∙ ap (λ t. old ++ t) (sym (passing-more p (λ k. MissingOn k) a))

pub returns-in_err-push_if : goal.returns-in_err-push_if
returns-in_err-push_if c = IfOk-from_err c.from_residual.result _ c.from_residual.ensures.0
