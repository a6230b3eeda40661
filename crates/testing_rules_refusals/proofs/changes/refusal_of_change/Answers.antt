use Rattle.std.proofs.Common.{◌≡◌, None, IfNone, subst}
use Rattle.std.specs.Prelude.{IfSome}
use Rattle.testing_rules_model.specs.JudgedRows.{lent}
use Rattle.testing_rules_model.specs.Moves.{offender_of}
use Rattle.testing_rules_refusals.specs.Refusals.{IsRefusal}
use Rattle.testing_rules_refusals.proofs.changes.refusal_of_change.Goals as goal

pub returns-in_default-clause-none : goal.returns-in_default-clause-none
returns-in_default-clause-none c =
    let l = c.args.telling.now in
    subst (λ o. IfNone o (offender_of l.archs.now (lent c.args.old.now) (lent c.args.new.now) l.coming.now ≡ None)) c.in_default.is c.in_ok-refusal.ensures.none

pub returns-clause-some : goal.returns-clause-some
returns-clause-some c =
    let l = c.args.telling.now in
    let old = lent c.args.old.now in
    let new = lent c.args.new.now in
    let r = c.in-Some.refusal in
    record {
      offender = r.offender;
      rows = lent r.rows.items;
      steps = r.steps.items;
      refusal =
          subst (λ o. IfSome o (λ r. IsRefusal l.archs.now old new l.coming.now r.offender (lent r.rows.items) r.steps.items))
          c.in-Some.is c.in_ok-refusal.ensures.some;
      told = c.in_ok-text.ensures;
    }
