use Rattle.std.proofs.Common.{◌≡◌, List, Some, None, IfNone, sym, subst}
use Rattle.std.specs.Prelude.{IfOk, IfSome}
use Rattle.testing_rules_model.specs.JudgedRows.{lent}
use Rattle.testing_rules_model.specs.Moves.{move_group, offender_of}
use Rattle.testing_rules_model.specs.declared.facts.UploadIn.{UploadIn}
use Rattle.testing_rules_refusals.specs.ToldChange.{IsToldMove}
use Rattle.testing_rules_refusals.proofs.changes.group_over_rows.Goals as goal

pub returns-clause-some : goal.returns-clause-some
returns-clause-some c =
    let a = c.args in
    let b = a.basis.now in
    subst (λ (us : List UploadIn). IfOk c.move_if_known.result (λ told. IfSome told (λ text. IsToldMove b.archs.now us (lent b.rows.now) b.excuses.now a.testing.now a.group.now text)))
    c.sources.ensures.sources c.move_if_known.ensures.some

pub returns-clause-none : goal.returns-clause-none
returns-clause-none c =
    let a = c.args in
    let b = a.basis.now in
    let t = a.testing.now in
    subst (λ (us : List UploadIn). IfOk c.move_if_known.result (λ told. IfNone told (offender_of b.archs.now t.rows (move_group us (lent b.rows.now) a.group.now t).rows a.group.now ≡ None)))
    c.sources.ensures.sources c.move_if_known.ensures.none

pub move_if_known-requires-clause-breaks : goal.move_if_known-requires-clause-breaks
move_if_known-requires-clause-breaks c =
    let a = c.args in
    let b = a.basis.now in
    let t = a.testing.now in
    subst (λ (us : List UploadIn). offender_of b.archs.now t.rows (move_group us (lent b.rows.now) a.group.now t).rows a.group.now ≡ Some a.offender) (sym c.sources.ensures.sources) c.requires
