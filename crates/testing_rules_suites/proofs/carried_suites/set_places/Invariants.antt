use Rattle.std.proofs.Common.{◌≡◌, filter}
use Rattle.std.specs.List.{range_with_len}
use Rattle.testing_install.specs.Closed.{marked}
use Rattle.testing_rules_suites.proofs.carried_suites.set_places.Given as goal

-- those so far
abbrev pub invariant-loop-place : goal.invariant-loop-place
invariant-loop-place l = l.places.items ≡ filter (marked l.flags) (range_with_len 0 l.place)
