use Rattle.std.proofs.Common.{◌≡◌, ◌+◌, ◌++◌, ℕ, Bool, List, length, drop}
use Rattle.std.specs.List.{count_by}
use Rattle.std.specs.Option.{option_copied}
use Rattle.testing_install.specs.Rows.{shared}
use Rattle.testing_install.specs.steps.Settling.{IsSized, IsSettling}
use Rattle.testing_install.proofs.settle.check_clauses.Given as goal

abbrev pub invariant-loop-place : goal.invariant-loop-place
invariant-loop-place l = record {
  sized : IsSized (shared l.graph.rows.items) l.marks.current l.falls.waiting.items;
  kept : l.marks.kept ≡ l.fn.marks.kept;
  measure : length l.falls.waiting.items + count_by (λ b. b) l.marks.current ≡ length l.fn.falls.waiting.items + count_by (λ b. b) l.fn.marks.current;
  step : (there : ℕ → Bool) (first : List Bool) (more : List ℕ) → IsSettling (shared l.graph.rows.items) there first l.fn.marks.current l.fn.falls.waiting.items l.fn.falls.fallen.items (l.places ++ more) (option_copied l.lost) → IsSettling (shared l.graph.rows.items) there first l.marks.current l.falls.waiting.items l.falls.fallen.items (drop l.place-index l.places ++ more) (option_copied l.lost);
}
