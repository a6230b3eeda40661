use Rattle.std.proofs.Common.{◌≡◌, ◌∙◌, ap, subst, refl, IfNone, IfSome, ◌<◌, true, length, arith}
use Rattle.std.proofs.lemmas.Option.{slice_get_within}
use Rattle.std.proofs.lemmas.List.{length-map}
use Rattle.deb_control.specs.declared.binary.Binary.{Binary}
use Rattle.testing_install.specs.Among.{IsInstallableAmong}
use Rattle.testing_install.specs.Closed.{marked}
use Rattle.testing_rules_model.specs.Moves.{judged_on}
use Rattle.testing_rules_model.specs.declared.suite.RowIn.{RowIn}
use Rattle.testing_rules_model.specs.JudgedRows.{lent, row_of}
use Rattle.testing_install_why.specs.Certificate.{IsShownBy}
use Rattle.testing_rules_refusals.specs.Needs.{packages}
use Rattle.testing_rules_refusals.specs.steps.Refusals.{AreAllThere}
use Rattle.testing_rules_refusals.proofs.Refusing.{found_now, row_at, stands, isnt_unshown, shown_row}
use Rattle.testing_rules_refusals.proofs.refusal.refusal_on.Goals as goal

pub returns-in_default-2-clause-none : goal.returns-in_default-2-clause-none
returns-in_default-2-clause-none c =
    let a = c.args in
    let rows = c.in_ok-rows.rows.items in
    let suite = c.in_ok-suite.suite in
    let before = judged_on a.arch (lent a.old.now) in
    let place = c.in-Some.place in
    let all = subst (λ rs. AreAllThere (packages (lent rs)) suite) c.deref.ensures.value c.in_ok-suite.ensures in
    let found = found_now a.arch a.group.now before rows c.deref-2.result.now c.in_ok-place.field-0 place c.deref-2.ensures.value c.in-Some.is c.in_ok-place.ensures.some in
    let among = place < length suite.rows → marked suite.there place ≡ true → IsInstallableAmong suite.rows (marked suite.there) place in
    absurd (isnt_unshown a.arch a.group.now before (lent rows) place found suite all (subst (λ o. IfNone o among) c.in_default-2.is c.in_ok-steps.ensures.none))

pub index-requires : goal.index-requires
index-requires c =
    let a = c.args in
    let rows = c.in_ok-rows.rows.items in
    let before = judged_on a.arch (lent a.old.now) in
    let place = c.in-Some.place in
    let found = found_now a.arch a.group.now before rows c.deref-2.result.now c.in_ok-place.field-0 place c.deref-2.ensures.value c.in-Some.is c.in_ok-place.ensures.some in
    omega (arith, slice_get_within (lent rows) place found.is.answer.row (stands a.arch a.group.now before (lent rows) place found), length-map rows row_of, c.in_ok-rows.rows.ok.0)

pub returns-clause-some : goal.returns-clause-some
returns-clause-some c =
    let a = c.args in
    let rows = c.in_ok-rows.rows.items in
    let suite = c.in_ok-suite.suite in
    let before = judged_on a.arch (lent a.old.now) in
    let place = c.in-Some.place in
    let all = subst (λ rs. AreAllThere (packages (lent rs)) suite) c.deref.ensures.value c.in_ok-suite.ensures in
    let found = found_now a.arch a.group.now before rows c.deref-2.result.now c.in_ok-place.field-0 place c.deref-2.ensures.value c.in-Some.is c.in_ok-place.ensures.some in
    let there = stands a.arch a.group.now before (lent rows) place found in
    let below : place < length rows = omega (arith, slice_get_within (lent rows) place found.is.answer.row there, length-map rows row_of) in
    let row = row_at rows place c.index.result.now found.is.answer.row below c.index.ensures there in
    let named = c.in_ok-package.ensures ∙ c.as_str.ensures ∙ ap (λ (q : Binary). q.name) c.deref-3.ensures ∙ ap (λ (q : RowIn). q.binary.name) row in
    let shown = subst (λ o. IfSome o (λ s. IsShownBy suite.rows (marked suite.there) place s.items)) c.in-Some-2.is c.in_ok-steps.ensures.some in
    shown_row a.arch a.group.now before (lent rows) place found (lent a.old.now) (lent a.new.now) c.in_ok-package.package c.in-Some-2.steps.items suite
    refl c.in_ok-rows.ensures all named shown
