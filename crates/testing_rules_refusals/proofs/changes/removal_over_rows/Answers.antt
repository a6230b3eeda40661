use Rattle.std.proofs.Common.{List, subst}
use Rattle.std.specs.Prelude.{IfOk, IfSome}
use Rattle.testing_rules_model.specs.JudgedRows.{lent}
use Rattle.testing_rules_model.specs.declared.facts.UploadIn.{UploadIn}
use Rattle.testing_rules_refusals.specs.ToldChange.{IsToldRemoval}
use Rattle.testing_rules_refusals.proofs.changes.removal_over_rows.Goals as goal

pub returns-clause-some : goal.returns-clause-some
returns-clause-some c =
    let a = c.args in
    let b = a.basis.now in
    subst (λ (us : List UploadIn). IfOk c.removal_if_known.result (λ told. IfSome told (λ text. IsToldRemoval b.archs.now us (lent b.rows.now) b.excuses.now a.testing.now a.name.now text)))
    c.sources.ensures.sources c.removal_if_known.ensures.some
