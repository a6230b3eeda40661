use Rattle.std.proofs.Common.{◌≡◌, ◌≤◌, ◌-◌, filter}
use Rattle.std.specs.List.{range_with_len}
use Rattle.testing_rules_suites.specs.steps.Trials.{is_place_on}
use Rattle.testing_rules_suites.proofs.arch_suite.places_on.Given as goal

-- those so far
abbrev pub invariant-loop-place : goal.invariant-loop-place
invariant-loop-place l =
    record {
      so_far : l.places.items ≡ filter (is_place_on l.arch l.pool) (range_with_len l.from (l.place - l.from));
      above : l.from ≤ l.place;
    }
