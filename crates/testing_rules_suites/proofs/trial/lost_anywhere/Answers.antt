use Rattle.std.proofs.Common.{arith, ◌≡◌, ◌∙◌, sym, ap, subst, ◌<◌, Bool, List, length, Some, None}
use Rattle.std.specs.Prelude.{option_map}
use Rattle.std.specs.List.{slice_get}
use Rattle.std.specs.Option.{option_copied}
use Rattle.testing_install.specs.Closed.{marked}
use Rattle.testing_rules_model.specs.declared.update.Offender.{Offender}
use Rattle.testing_rules_suites.specs.steps.ArchRows.{ArchRows}
use Rattle.testing_rules_suites.specs.steps.PresentSteps.{IsOn, IsSuiteOn}
use Rattle.testing_rules_suites.specs.steps.Tried.{told_on}
use Rattle.testing_rules_suites.specs.steps.Trials.{IsFirstLost}
use Rattle.testing_rules_items.specs.Words.{Text}
use Rattle.testing_rules_suites.proofs.Failing.{first_of-next, first_of-found}
use Rattle.testing_rules_suites.proofs.Suites.{told_at}
use Rattle.testing_rules_suites.proofs.trial.lost_anywhere.Goals as goal

pub returns-in-Some-clause-first : goal.returns-in-Some-clause-first
returns-in-Some-clause-first c = λ stands tells are told.
    let pool = c.args.pool.now in
    let suites = c.args.suites.now.items in
    let arch = c.loop-arch.arch in
    let leaving = c.args.change.now.leaving.items in
    let coming = c.args.change.now.coming.items in
    let below : arch < c.args.archs = c.loop-arch-test.true in
    let within : arch < length suites = omega (arith, below, c.requires.archs) in
    let name = option_copied c.in_ok-name.field-0 in
    let Told : List ArchRows → Type 0 =
    λ ss. (suite : ArchRows) → slice_get ss arch ≡ Some suite → (stands there : List Bool) → IsSuiteOn arch pool stands suite → length there ≡ length pool
    → IsOn arch pool (marked stands) (marked there) → IsFirstLost arch pool there leaving coming name in
    let first : Told suites = subst Told c.loop-arch.invariant.same c.in_ok-name.ensures.first in
    let is = told_at pool stands suites leaving coming tells arch name are told within first in
    let as_offender : Text → Offender = λ n. record { arch = arch; «package» = n } in
    let some : tells arch ≡ Some c.in-Some.name.now = sym is ∙ ap option_copied c.in-Some.is in
    ap (λ n. Some (as_offender n)) c.in_ok-package.ensures
    ∙ sym (first_of-found (told_on tells) c.args.archs arch (as_offender c.in-Some.name.now) below (ap (option_map as_offender) some)) ∙ c.loop-arch.invariant.left stands tells are told

pub loop-arch-preserved : goal.loop-arch-preserved
loop-arch-preserved c = record {
  same = c.lost_on.ensures.same ∙ c.loop-arch.invariant.same;
  left = λ stands tells are told.
      let pool = c.args.pool.now in
      let suites = c.args.suites.now.items in
      let arch = c.loop-arch.arch in
      let leaving = c.args.change.now.leaving.items in
      let coming = c.args.change.now.coming.items in
      let below : arch < c.args.archs = c.loop-arch-test.true in
      let within : arch < length suites = omega (arith, below, c.requires.archs) in
      let name = option_copied c.in_ok-name.field-0 in
      let Told : List ArchRows → Type 0 =
      λ ss. (suite : ArchRows) → slice_get ss arch ≡ Some suite → (stands there : List Bool) → IsSuiteOn arch pool stands suite → length there ≡ length pool
      → IsOn arch pool (marked stands) (marked there) → IsFirstLost arch pool there leaving coming name in
      let first : Told suites = subst Told c.loop-arch.invariant.same c.in_ok-name.ensures.first in
      let is = told_at pool stands suites leaving coming tells arch name are told within first in
      let as_offender : Text → Offender = λ n. record { arch = arch; «package» = n } in
      let none : tells arch ≡ None = sym is ∙ ap option_copied c.in_default.is in
      first_of-next (told_on tells) c.args.archs arch below (ap (option_map as_offender) none) ∙ c.loop-arch.invariant.left stands tells are told;
}
