use Rattle.std.proofs.Common.{◌+◌, ◌-◌, ◌^◌, ◌≤◌, [], length, min}
use Rattle.std.specs.List.{count_by}
use Rattle.testing_install.specs.Rows.{binaries}
use Rattle.testing_install.specs.steps.Progress.{IsWork}
use Rattle.testing_install.proofs.work.propagate.Given as goal

abbrev pub invariant-loop-lost : goal.invariant-loop-lost
invariant-loop-lost l = record {
  work : IsWork (binaries l.ground.rows.now) l.state [];
  counted : min l.initial.state.looks (2 ^ 64 - 1) ≤ l.state.looks;
}

abbrev pub decreases-loop-lost : goal.decreases-loop-lost
decreases-loop-lost l = length l.state.waiting + count_by (λ b. b) l.state.marks
