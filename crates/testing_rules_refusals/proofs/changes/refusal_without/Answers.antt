use Rattle.std.proofs.Common.{◌≡◌, ◌∙◌, List, Some, None, IfNone, sym, ap, subst}
use Rattle.std.specs.Prelude.{IfOk, IfSome}
use Rattle.testing_rules_model.specs.JudgedRows.{lent}
use Rattle.testing_rules_model.specs.Moves.{offender_of}
use Rattle.testing_rules_model.specs.declared.suite.RowIn.{RowIn}
use Rattle.testing_rules_refusals.specs.Texts.{known_of}
use Rattle.testing_rules_refusals.specs.ToldChange.{IsToldChange}
use Rattle.testing_rules_refusals.proofs.changes.refusal_without.Goals as goal

pub refusal_of_change-requires-clause-breaks : goal.refusal_of_change-requires-clause-breaks
refusal_of_change-requires-clause-breaks c =
    let l = c.args.telling.now in
    let after = ap lent c.deref.ensures.value ∙ c.in_ok-new.ensures in
    subst (λ (new : List RowIn). IfSome c.args.known (λ offender. offender_of l.archs.now (lent c.args.old.now) new l.coming.now ≡ Some offender)) (sym after) c.requires.breaks

pub returns-clause-some : goal.returns-clause-some
returns-clause-some c =
    let l = c.args.telling.now in
    let after = ap lent c.deref.ensures.value ∙ c.in_ok-new.ensures in
    subst (λ (new : List RowIn). IfOk c.refusal_of_change.result (λ told. IfSome told (λ text. IsToldChange l.testing.now (known_of l) (lent l.unstable.rows.now) (lent c.args.old.now) new text)))
    after c.refusal_of_change.ensures.some

pub returns-clause-none : goal.returns-clause-none
returns-clause-none c =
    let l = c.args.telling.now in
    let after = ap lent c.deref.ensures.value ∙ c.in_ok-new.ensures in
    subst (λ (new : List RowIn). IfOk c.refusal_of_change.result (λ told. IfNone told (offender_of l.archs.now (lent c.args.old.now) new l.coming.now ≡ None)))
    after c.refusal_of_change.ensures.none
