use Rattle.std.proofs.Common.{◌≡◌, ◌∙◌, Some, sym, ap, subst}
use Rattle.std.specs.Prelude.{IfSome}
use Rattle.testing_rules_model.specs.JudgedRows.{lent}
use Rattle.testing_rules_model.specs.Moves.{offender_of}
use Rattle.testing_rules_refusals.specs.steps.Shown.{IsShownOf}
use Rattle.testing_rules_refusals.proofs.Sole.{shown_row}
use Rattle.testing_rules_refusals.proofs.changes.refusal_of.Goals as goal

pub returns-in-Some-2-clause-some : goal.returns-in-Some-2-clause-some
returns-in-Some-2-clause-some c =
    let a = c.args in
    let l = a.telling.now in
    let archs = l.archs.now in
    let old = lent a.old.now in
    let new = lent a.new.now in
    let group = l.coming.now in
    let offender = c.in-Some.offender in
    let r = c.in-Some-2.refusal in
    let breaks : offender_of archs old new group ≡ Some offender = subst (λ o. IfSome o (λ offender. offender_of archs old new group ≡ Some offender)) c.in-Some.is c.requires in
    let found = subst (λ o. IfSome o (λ r. IsShownOf new offender r.offender (lent r.rows.items) r.steps.items)) c.in-Some-2.is c.in_ok-refusal.ensures in
    record {
      first = breaks ∙ ap Some (sym found.same);
      shows = shown_row archs old new group offender r.offender (lent r.rows.items) r.steps.items breaks found;
    }
