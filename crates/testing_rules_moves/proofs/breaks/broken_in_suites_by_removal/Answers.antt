use Rattle.std.proofs.Common.{◌≡◌, ◌∙◌, sym, ap, subst, [], Option}
use Rattle.testing_rules_model.specs.declared.update.Offender.{Offender}
use Rattle.testing_rules_model.specs.Moves.{remove_source, offender_of}
use Rattle.testing_rules_suites.specs.steps.PresentSteps.{present_rows}
use Rattle.testing_rules_model.specs.Suite.{Suite}
use Rattle.testing_rules_suites.specs.steps.Tried.{first_told, IsWithin, Tells}
use Rattle.testing_rules_suites.proofs.Alive.{failing, removal_told}
use Rattle.testing_rules_items.proofs.Weaker.{if_ok_weaker}
use Rattle.testing_rules_moves.proofs.breaks.broken_in_suites_by_removal.Goals as goal

pub returns-clause-offender : goal.returns-clause-offender
returns-clause-offender c =
    let s = c.args.suites.now in
    let archs = c.args.archs.now in
    let name = c.args.name.now in
    let t : Suite = record { sources = []; rows = present_rows s } in
    let leaving = c.in_ok-change.change.leaving.items in
    let none = c.in_ok-change.ensures.none in
    let new = remove_source name t in
    let tells = failing [] t.rows new.rows in
    let removal = rw c.as_str.ensures at c.in_ok-change.ensures.removal in
    let within = subst (λ ks. IsWithin s.rows leaving ks) none c.in_ok-change.ensures.within in
    let told = subst (λ ks. Tells s.rows s.stands leaving ks tells) (sym none) (removal_told s name leaving t c.requires.shown removal within) in
    if_ok_weaker _ (λ (o : Option Offender). o ≡ offender_of archs t.rows new.rows []) c.first_lost.result
    (λ o first. first tells told ∙ ap (λ n. first_told n tells) c.requires.count) c.first_lost.ensures.first
