use Rattle.std.proofs.Common.{arith, ◌≡◌, ◌∙◌, refl, sym, ap, ap₂, subst, ◌++◌, length, replicate, false, [], List, ℕ}
use Rattle.std.specs.List.{range_with_len}
use Rattle.testing_install.specs.Among.{after_change}
use Rattle.testing_install.specs.Closed.{marked}
use Rattle.testing_rules_model.specs.JudgedRows.{lent}
use Rattle.testing_rules_suites.specs.Present.{CarriedState, IsShown}
use Rattle.testing_rules_model.specs.declared.suite.RowIn.{RowIn}
use Rattle.testing_rules_suites.proofs.Extending.{all_shown}
use Rattle.testing_rules_suites.proofs.Suites.{firsts_within}
use Rattle.testing_rules_items.proofs.Weaker.{if_ok_weaker}
use Rattle.testing_rules_suites.proofs.carried_suites.CarriedSuites.of.Goals as goal

pub after-requires : goal.after-requires
after-requires c =
    let rows = c.args.rows.now in
    let given = ap lent c.deref.ensures.value ∙ c.in_ok-lent.ensures in
    let grown : List RowIn → CarriedState → CarriedState = λ rs s. record { rows = s.rows ++ rs; stands = s.stands ++ replicate (length rs) false; archs = s.archs } in
    let began = c.in_ok-suites.ensures ∙ ap (λ rs. grown rs c.in_ok-none.none) given ∙ ap (grown rows) c.in_ok-none.ensures in
    let long = ap (λ (s : CarriedState). length s.rows) began in
    firsts_within c.in_ok-suites.suites.rows (length rows) c.new-2.result.items c.in_ok-first_places.field-0.items (omega (arith, long)) c.new-2.ensures.items c.in_ok-first_places.ensures

pub returns-clause-shown : goal.returns-clause-shown
returns-clause-shown c =
    let rows = c.args.rows.now in
    let given = ap lent c.deref.ensures.value ∙ c.in_ok-lent.ensures in
    let grown : List RowIn → CarriedState → CarriedState = λ rs s. record { rows = s.rows ++ rs; stands = s.stands ++ replicate (length rs) false; archs = s.archs } in
    let began = c.in_ok-suites.ensures ∙ ap (λ rs. grown rs c.in_ok-none.none) given ∙ ap (grown rows) c.in_ok-none.ensures in
    let leaving = c.new-2.result.items in
    let coming = c.in_ok-first_places.field-0.items in
    let moved : List ℕ → List ℕ → CarriedState → CarriedState = λ out into s. record { rows = s.rows; stands = after_change out into s.stands; archs = s.archs } in
    let firsts = range_with_len 0 (length rows) in
    let made = ap₂ (λ out into. moved out into c.in_ok-suites.suites) c.new-2.ensures.items c.in_ok-first_places.ensures ∙ ap (moved [] firsts) began in
    let shown = all_shown rows (length rows) c.requires refl in
    if_ok_weaker (λ s. s ≡ moved leaving coming c.in_ok-suites.suites) (λ s. IsShown s.rows (marked s.stands) rows) c.after.result
    (λ s is. subst (λ (t : CarriedState). IsShown t.rows (marked t.stands) rows) (sym (is ∙ made)) shown) c.after.ensures.state
