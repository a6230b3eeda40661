use Rattle.std.proofs.Common.{◌≡◌, map, take, Some}
use Rattle.testing_install.specs.Rows.{shared}
use Rattle.testing_rules_suites.specs.steps.ArchRows.{package_at}
use Rattle.testing_rules_suites.proofs.arch_suite.packages_at.Given as goal

-- those so far
abbrev pub invariant-loop-place : goal.invariant-loop-place
invariant-loop-place l = map (λ b. Some b) (shared l.packages.items) ≡ map (package_at l.pool) (take l.place-index l.places)
