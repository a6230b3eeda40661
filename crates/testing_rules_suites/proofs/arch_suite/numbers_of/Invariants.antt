use Rattle.std.proofs.Common.{take}
use Rattle.testing_rules_suites.specs.steps.ArchRows.{AreNumbers}
use Rattle.testing_rules_suites.proofs.arch_suite.numbers_of.Given as goal

-- those so far
abbrev pub invariant-loop-place : goal.invariant-loop-place
invariant-loop-place l = AreNumbers l.own (take l.place-index l.places) l.numbers.items
