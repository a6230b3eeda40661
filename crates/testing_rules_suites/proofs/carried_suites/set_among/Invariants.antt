use Rattle.std.proofs.Common.{◌≡◌, filter, take}
use Rattle.testing_install.specs.Closed.{marked}
use Rattle.testing_rules_suites.proofs.carried_suites.set_among.Given as goal

-- those so far
abbrev pub invariant-loop-place : goal.invariant-loop-place
invariant-loop-place l = l.up.items ≡ filter (marked l.flags) (take l.place-index l.places)
