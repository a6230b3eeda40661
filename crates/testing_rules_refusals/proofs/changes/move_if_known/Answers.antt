use Rattle.std.proofs.Common.{◌≡◌, ◌∙◌, List, Some, None, IfNone, sym, ap, subst}
use Rattle.std.specs.Prelude.{IfOk, IfSome}
use Rattle.testing_rules_model.specs.Boxed.{unboxed}
use Rattle.testing_rules_model.specs.InOrder.{AreByKey}
use Rattle.testing_rules_model.specs.JudgedRows.{lent}
use Rattle.testing_rules_model.specs.Moves.{offender_of}
use Rattle.testing_rules_model.specs.declared.suite.RowIn.{RowIn}
use Rattle.testing_rules_refusals.specs.Texts.{known_of}
use Rattle.testing_rules_refusals.specs.ToldChange.{IsToldChange}
use Rattle.testing_rules_suites.specs.steps.AfterMoves.{moved_rows}
use Rattle.testing_rules_refusals.proofs.changes.move_if_known.Goals as goal

pub refusal_of_move-requires-clause-order : goal.refusal_of_move-requires-clause-order
refusal_of_move-requires-clause-order c =
    subst AreByKey (sym (ap lent c.deref.ensures.value ∙ c.in_ok-old.ensures)) c.rows.ensures.ordered

pub refusal_of_move-requires-clause-breaks : goal.refusal_of_move-requires-clause-breaks
refusal_of_move-requires-clause-breaks c =
    let l = c.args.telling.now in
    let same = ap lent c.deref.ensures.value ∙ c.in_ok-old.ensures ∙ c.rows.ensures.entries in
    subst (λ (rows : List RowIn). IfSome c.args.known (λ offender. offender_of l.archs.now rows (moved_rows (unboxed l.unstable.sources.now) (lent l.unstable.rows.now) l.coming.now rows) l.coming.now ≡ Some offender))
    (sym same) c.requires.breaks

pub returns-clause-some : goal.returns-clause-some
returns-clause-some c =
    let l = c.args.telling.now in
    let same = ap lent c.deref.ensures.value ∙ c.in_ok-old.ensures ∙ c.rows.ensures.entries in
    subst (λ (rows : List RowIn). IfOk c.refusal_of_move.result (λ told. IfSome told (λ text. IsToldChange l.testing.now (known_of l) (lent l.unstable.rows.now) rows
    (moved_rows (unboxed l.unstable.sources.now) (lent l.unstable.rows.now) l.coming.now rows) text)))
    same c.refusal_of_move.ensures.some

pub returns-clause-none : goal.returns-clause-none
returns-clause-none c =
    let l = c.args.telling.now in
    let same = ap lent c.deref.ensures.value ∙ c.in_ok-old.ensures ∙ c.rows.ensures.entries in
    subst (λ (rows : List RowIn). IfOk c.refusal_of_move.result (λ told. IfNone told (offender_of l.archs.now rows
    (moved_rows (unboxed l.unstable.sources.now) (lent l.unstable.rows.now) l.coming.now rows) l.coming.now ≡ None)))
    same c.refusal_of_move.ensures.none
