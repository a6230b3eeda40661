use Rattle.std.proofs.Common.{◌≡◌, List, subst}
use Rattle.std.specs.Prelude.{IfOk}
use Rattle.testing_rules_model.specs.JudgedRows.{lent}
use Rattle.testing_rules_model.specs.Moves.{move_group, offender_of}
use Rattle.testing_rules_model.specs.declared.facts.UploadIn.{UploadIn}
use Rattle.testing_rules_refusals.proofs.changes.group_broken.Goals as goal

pub returns-clause-offender : goal.returns-clause-offender
returns-clause-offender c =
    let a = c.args in
    let b = a.basis.now in
    let t = a.testing.now in
    subst (λ (us : List UploadIn). IfOk c.broken_by_group.result (λ o. o ≡ offender_of b.archs.now t.rows (move_group us (lent b.rows.now) a.group.now t).rows a.group.now))
    c.sources.ensures.sources c.broken_by_group.ensures.offender
