use Rattle.std.proofs.Common.{◌≡◌, ◌+◌, ℕ, Bool, List, length, Some}
use Rattle.std.specs.List.{count_by}
use Rattle.testing_install.proofs.Needing.{places_from}
use Rattle.testing_install.specs.steps.Dependents.{places_for}
use Rattle.testing_install.specs.Rows.{shared}
use Rattle.testing_install.specs.steps.Settling.{IsSized, IsSettling}
use Rattle.testing_install.proofs.settle.look_at_dependents.Given as goal

abbrev pub invariant-loop-provision : goal.invariant-loop-provision
invariant-loop-provision l = record {
  sized : IsSized (shared l.graph.rows.items) l.marks.current l.falls.waiting.items;
  kept : l.marks.kept ≡ l.fn.marks.kept;
  measure : length l.falls.waiting.items + count_by (λ b. b) l.marks.current ≡ length l.fn.falls.waiting.items + count_by (λ b. b) l.fn.marks.current;
  step : (there : ℕ → Bool) (first : List Bool) → IsSettling (shared l.graph.rows.items) there first l.fn.marks.current l.fn.falls.waiting.items l.fn.falls.fallen.items (places_for l.graph.dependents l.lost) (Some l.lost) → IsSettling (shared l.graph.rows.items) there first l.marks.current l.falls.waiting.items l.falls.fallen.items (places_from l.graph.dependents l.lost l.provision-index) (Some l.lost);
}
