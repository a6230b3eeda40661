use Rattle.std.proofs.Common.{◌≡◌, length}
use Rattle.testing_install.specs.steps.Tracked.{IsTracked}
use Rattle.testing_install.proofs.marks.Marks.undo.Given as goal

abbrev pub invariant-loop-place : goal.invariant-loop-place
invariant-loop-place l = record {
  tracked : IsTracked l.self-inside.current.items l.self-inside.kept.items l.self-inside.touched.items;
  same : l.self-inside.kept.items ≡ l.fn.self.kept;
}

abbrev pub decreases-loop-place : goal.decreases-loop-place
decreases-loop-place l = length l.self-inside.touched.items
