use Rattle.std.proofs.Common.{ℕ, Bool}
use Rattle.std.specs.List.{count_by}
use Rattle.testing_install_why.specs.steps.Taking.{IsLooked, IsOrder}
use Rattle.testing_install_why.proofs.order.take_out.Given as goal

abbrev pub invariant-loop-held : goal.invariant-loop-held
invariant-loop-held l = record {
  looked : IsLooked l.suite.rows l.places l.left l.held.items l.waiting.items;
  order : (there : ℕ → Bool) → IsOrder l.suite.rows there l.fn.left l.fn.steps.items → IsOrder l.suite.rows there l.left l.steps.items;
}

abbrev pub decreases-loop-held : goal.decreases-loop-held
decreases-loop-held l = count_by (λ b. b) l.left
