use Rattle.std.proofs.Common.{◌∙◌, List, ap, subst}
use Rattle.std.specs.Prelude.{IfOk, IfSome}
use Rattle.testing_rules_model.specs.JudgedRows.{lent}
use Rattle.testing_rules_model.specs.declared.facts.UploadIn.{UploadIn}
use Rattle.testing_rules_refusals.specs.Stuck.{IsStuckText}
use Rattle.testing_rules_refusals.proofs.stuck.text_over_rows.Goals as goal

pub text_over-requires-clause-old : goal.text_over-requires-clause-old
text_over-requires-clause-old c = ap lent c.deref.ensures.value ∙ c.in_ok-old.ensures ∙ c.rows.ensures.entries

pub returns : goal.returns
returns c =
    let a = c.args in
    let b = a.basis.now in
    subst (λ (us : List UploadIn). IfOk c.text_over.result (λ found. IfSome found (IsStuckText b.archs.now us (lent b.rows.now) b.excuses.now a.testing.now a.source.now)))
    c.sources.ensures.sources c.text_over.ensures
