use Rattle.std.proofs.Common.{◌≡◌, ◌+◌, ◌-◌, ◌≤◌, ◌<◌, ℕ, Bool, not, length}
use Rattle.std.specs.List.{count_by, All}
use Rattle.testing_install.specs.Closed.{marked}
use Rattle.testing_install.specs.Rows.{shared}
use Rattle.testing_install.specs.steps.Settling.{IsReviving}
use Rattle.testing_install.proofs.change.revive.Given as goal

abbrev pub invariant-revivals : goal.invariant-revivals
invariant-revivals l = record {
  revived : (old : ℕ → Bool) → IsReviving (shared l.graph.rows.items) (marked l.there) old l.fn.marks.current l.fn.marks.current l.fn.fresh.items 0 → IsReviving (shared l.graph.rows.items) (marked l.there) old l.fn.marks.current l.marks.current l.fresh.items l.next;
  long : length l.marks.current ≡ length l.graph.rows.items;
  kept : l.marks.kept ≡ l.fn.marks.kept;
  fresh : All (λ k. k < length l.graph.rows.items) l.fresh.items;
  next : l.next ≤ length l.fresh.items;
}

abbrev pub decreases-revivals : goal.decreases-revivals
decreases-revivals l = count_by (λ b. not b) l.marks.current + (length l.fresh.items - l.next)
