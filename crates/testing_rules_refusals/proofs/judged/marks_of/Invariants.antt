use Rattle.std.proofs.Common.{◌≡◌, ℕ, ◌<◌, true, length}
use Rattle.std.specs.Prelude.{◌↔◌}
use Rattle.testing_install.specs.Among.{IsInstallableAmong}
use Rattle.testing_install.specs.Closed.{marked}
use Rattle.testing_rules_refusals.proofs.judged.marks_of.Given as goal

-- those so far
abbrev pub invariant-loop-place : goal.invariant-loop-place
invariant-loop-place l =
    record {
      long : length l.marks.items ≡ l.place;
      exact : (k : ℕ) → k < l.place → (marked l.marks.items k ≡ true) ↔ IsInstallableAmong l.suite.rows (marked l.suite.there) k;
    }
