use Rattle.std.proofs.Common.{refl, subst}
use Rattle.std.specs.Prelude.{IfSome}
use Rattle.testing_rules_model.specs.JudgedRows.{lent}
use Rattle.testing_rules_refusals.specs.Needs.{packages}
use Rattle.testing_rules_refusals.specs.steps.Shown.{IsOnlyOf}
use Rattle.testing_install_why.specs.Certificate.{IsShownBy, everywhere}
use Rattle.testing_rules_refusals.proofs.shown.shown_of.Goals as goal

pub returns : goal.returns
returns c =
    let name = c.args.offender.«package» in
    let place = c.in-Some.place in
    let steps = c.in-Some-2.steps.items in
    let only = subst (λ n. IsOnlyOf (lent c.deref.result.now) n place) c.as_str.ensures c.in-Some.ensures in
    let shown = subst (λ o. IfSome o (λ s. IsShownBy (packages (lent c.deref-2.result.now)) everywhere place s.items)) c.in-Some-2.is c.in_ok-steps.ensures in
    record {
      place = place;
      same = refl;
      rows_are = c.in_ok-rows.ensures;
      only = subst (λ rs. IsOnlyOf (lent rs) name place) c.deref.ensures.value only;
      shown = subst (λ rs. IsShownBy (packages (lent rs)) everywhere place steps) c.deref-2.ensures.value shown;
    }
