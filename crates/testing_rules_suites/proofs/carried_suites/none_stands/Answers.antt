use Rattle.std.proofs.Common.{arith, ◌∙◌, sym, ap, length, ◌≤◌}
use Rattle.std.specs.List.{list_any}
use Rattle.std.proofs.lemmas.List.{take_all}
use Rattle.testing_install.specs.Closed.{marked}
use Rattle.testing_rules_suites.proofs.Suites.{none_of}
use Rattle.testing_rules_suites.proofs.carried_suites.none_stands.Goals as goal

pub returns : goal.returns
returns c = λ _.
    let flags = c.args.flags.now in
    let places = c.args.places.now in
    let ended : length places ≤ c.loop-place.place-index = omega (arith, c.loop-place-test.false) in
    none_of flags places (ap (list_any (marked flags)) (sym (take_all c.loop-place.place-index places ended)) ∙ c.loop-place.invariant)
