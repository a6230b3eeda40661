use Rattle.std.proofs.Common.{◌≡◌, length, []}
use Rattle.testing_rules_suites.specs.steps.PresentSteps.{AreSuites}
use Rattle.testing_rules_suites.proofs.carried_suites.empty_suites.Given as goal

-- those of the first architectures
abbrev pub invariant-loop-arch : goal.invariant-loop-arch
invariant-loop-arch l = record {
  count : length l.suites.items ≡ l._arch;
  each : AreSuites [] [] l.suites.items;
}
