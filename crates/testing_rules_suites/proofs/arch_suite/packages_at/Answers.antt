use Rattle.std.proofs.Common.{◌≡◌, ◌∙◌, sym, ap, ◌<◌, ◌++◌, ◌∷◌, [], length, map, take, get_or, Some, Option, arith, ◌≤◌}
use Rattle.std.specs.Prelude.{option_map}
use Rattle.std.specs.declared.alloc.Global.{Global}
use Rattle.std.specs.declared.rc.Rc.{Rc}
use Rattle.std.proofs.lemmas.List.{map-append, take_more, take_all}
use Rattle.deb_control.specs.declared.binary.Binary.{Binary}
use Rattle.testing_install.specs.Rows.{shared}
use Rattle.testing_install.proofs.Counting.{slice_get_some}
use Rattle.testing_rules_model.specs.declared.suite.RowIn.{RowIn}
use Rattle.testing_rules_suites.specs.steps.ArchRows.{package_at}
use Rattle.testing_rules_suites.proofs.arch_suite.packages_at.Goals as goal

pub loop-place-preserved : goal.loop-place-preserved
loop-place-preserved c =
    let pool = c.args.pool.now in
    let places = c.args.places.now in
    let i = c.loop-place.place-index in
    let place = get_or places i 0 in
    let before = c.loop-place.packages.items in
    let new = c.in_ok-package.field-0 in
    let below : i < length places = c.loop-place-test.true in
    let row = slice_get_some pool place (c.requires i 0 below) in
    let value : Rc Binary Global → Binary = λ r. r.value in
    let some : Binary → Option Binary = λ b. Some b in
    let read : package_at pool place ≡ Some new.value = ap (option_map (λ (r : RowIn). r.binary)) row.1 ∙ ap some (sym (c.in_ok-package.ensures row.0 row.1)) in
    ap (λ ps. map some (shared ps)) c.in_ok-push.ensures.items ∙ ap (map some) (map-append value before (new ∷ [])) ∙ map-append some (shared before) (new.value ∷ [])
    ∙ ap (λ bs. bs ++ Some new.value ∷ []) c.loop-place.invariant ∙ ap (λ o. map (package_at pool) (take i places) ++ o ∷ []) (sym read)
    ∙ sym (ap (map (package_at pool)) (take_more places i 0 below) ∙ map-append (package_at pool) (take i places) (place ∷ []))

pub returns : goal.returns
returns c =
    let over : length c.args.places.now ≤ c.loop-place.place-index = omega arith in
    rw (take_all c.loop-place.place-index c.args.places.now over) at c.loop-place.invariant
