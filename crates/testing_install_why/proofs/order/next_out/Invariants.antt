use Rattle.std.proofs.Common.{◌≡◌, ◌<◌, ℕ, List, length}
use Rattle.std.specs.List.{All}
use Rattle.testing_install_why.specs.steps.Taking.{IsLooked}
use Rattle.testing_install_why.proofs.order.next_out.Given as goal

abbrev pub invariant-loop-place : goal.invariant-loop-place
invariant-loop-place l = record {
  long : length l.held ≡ length l.suite.rows;
  within : All (λ k. k < length l.suite.rows) l.waiting.items;
  looked : (places : List ℕ) → IsLooked l.suite.rows places l.left l.fn.held l.fn.waiting.items → IsLooked l.suite.rows places l.left l.held l.waiting.items;
}

abbrev pub decreases-loop-place : goal.decreases-loop-place
decreases-loop-place l = length l.waiting.items
