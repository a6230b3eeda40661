use Rattle.std.proofs.Common.{◌≡◌, ◌∙◌, sym, ap, subst, ℕ, ◌+◌, ◌++◌, ◌∷◌, [], take, get_or, arith, ◌≤◌, length}
use Rattle.std.proofs.lemmas.Result.{IfOk-from_err}
use Rattle.std.specs.Prelude.{Option}
use Rattle.std.proofs.lemmas.List.{take_more, take_all}
use Rattle.testing_rules_suites.specs.steps.ArchRows.{AreNumbers, IsNumberOf}
use Rattle.testing_rules_suites.proofs.Numbers.{numbers_none, numbers_more, numbers_same}
use Rattle.testing_rules_suites.proofs.arch_suite.numbers_of.Goals as goal
use Rattle.testing_rules_suites.proofs.arch_suite.numbers_of.Goals.{in-Some+in_ok-push, in_default}

pub loop-place-init : goal.loop-place-init
loop-place-init c = subst (AreNumbers c.args.own.now []) (sym c.new-numbers.ensures.items) (numbers_none c.args.own.now)

pub loop-place-preserved : goal.loop-place-preserved
loop-place-preserved c =
    let own = c.args.own.now in
    let places = c.args.places.now in
    let i = c.loop-place.place-index in
    let place = get_or places i 0 in
    let done = take i places in
    let before = c.loop-place.numbers.items in
    let told : (r : Option ℕ) → c.ok.result ≡ r → IsNumberOf own place r = λ r e. subst (IsNumberOf own place) (sym c.ok.ensures.value ∙ e) c.number_near-found.ensures in
    let more : take (i + 1) places ≡ done ++ place ∷ [] = take_more places i 0 c.loop-place-test.true in
    elim c.match-ok.branch [
      | in-Some+in_ok-push w ↦
          let items = ap (λ v. v.items) w.numbers-is ∙ w.in_ok-push.ensures.ok in
          subst (AreNumbers own (take (i + 1) places)) (sym items) (subst (λ ks. AreNumbers own ks (before ++ w.in-Some.number ∷ [])) (sym more)
          (numbers_more own done before c.loop-place.invariant place w.in-Some.number c.requires (told _ w.in-Some.is)))
      | in_default w ↦
          let items = ap (λ v. v.items) w.numbers-is in
          subst (AreNumbers own (take (i + 1) places)) (sym items) (subst (λ ks. AreNumbers own ks before) (sym more)
          (numbers_same own done before c.loop-place.invariant place (told _ w.in_default.is)))
    ]

pub returns-in_err-push : goal.returns-in_err-push
returns-in_err-push c = IfOk-from_err c.from_residual.result _ c.from_residual.ensures.0

pub returns : goal.returns
returns c =
    let over : length c.args.places.now ≤ c.loop-place.place-index = omega arith in
    rw (take_all c.loop-place.place-index c.args.places.now over) at c.loop-place.invariant
