use Rattle.std.proofs.Common.{◌≡◌, ◌+◌, ℕ, Bool, List, [], length, None}
use Rattle.std.specs.List.{count_by}
use Rattle.testing_install.specs.Rows.{shared}
use Rattle.testing_install.specs.steps.Settling.{IsSized, IsSettling}
use Rattle.testing_install.proofs.settle.propagate.Given as goal

abbrev pub invariant-loop-place : goal.invariant-loop-place
invariant-loop-place l = record {
  sized : IsSized (shared l.graph.rows.items) l.marks.current l.falls.waiting.items;
  kept : l.marks.kept ≡ l.fn.marks.kept;
  step : (there : ℕ → Bool) (first : List Bool) → IsSettling (shared l.graph.rows.items) there first l.fn.marks.current l.fn.falls.waiting.items l.fn.falls.fallen.items [] None → IsSettling (shared l.graph.rows.items) there first l.marks.current l.falls.waiting.items l.falls.fallen.items [] None;
}

abbrev pub decreases-loop-place : goal.decreases-loop-place
decreases-loop-place l = length l.falls.waiting.items + count_by (λ b. b) l.marks.current
