use Rattle.std.proofs.Common.{◌≡◌, filter}
use Rattle.std.specs.List.{range_with_len}
use Rattle.testing_rules_suites.specs.steps.Standing.{is_alone}
use Rattle.testing_rules_suites.proofs.lent_suites.set_alone.Given as goal

-- those so far
abbrev pub invariant-loop-place : goal.invariant-loop-place
invariant-loop-place l = l.places.items ≡ filter (is_alone l.flags l.others) (range_with_len 0 l.place)
