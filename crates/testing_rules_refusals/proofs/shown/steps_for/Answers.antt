use Rattle.std.proofs.Common.{◌∙◌, ap, subst}
use Rattle.testing_install.specs.Rows.{binaries}
use Rattle.testing_install_why.specs.Certificate.{IsShownBy, everywhere}
use Rattle.testing_rules_refusals.proofs.shown.steps_for.Goals as goal

pub returns : goal.returns
returns c =
    let place = c.args.place in
    let steps = c.in_ok-steps.steps.items in
    let same = ap binaries c.deref-2.ensures.value ∙ c.in_ok-list.ensures in
    let shown = subst (λ s. IsShownBy (binaries c.deref-2.result.now) everywhere place s) c.deref-3.ensures.value (c.in_ok-is_shown.ensures c.if-not-branch.false) in
    subst (λ rs. IsShownBy rs everywhere place steps) same shown
