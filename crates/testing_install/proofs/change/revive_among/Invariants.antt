use Rattle.std.proofs.Common.{◌≡◌, ◌+◌, length}
use Rattle.std.specs.List.{count_by}
use Rattle.testing_install.specs.Closed.{marked}
use Rattle.testing_install.specs.steps.Settling.{IsRevived}
use Rattle.testing_install.proofs.change.revive_among.Given as goal

abbrev pub invariant-loop-place : goal.invariant-loop-place
invariant-loop-place l = record {
  revived : IsRevived (marked l.there) l.fn.marks.current l.marks.current l.fn.fresh.items l.fresh.items l.places l.place-index;
  long : length l.marks.current ≡ length l.there;
  kept : l.marks.kept ≡ l.fn.marks.kept;
  measure : length l.fresh.items + count_by (λ b. b) l.fn.marks.current ≡ length l.fn.fresh.items + count_by (λ b. b) l.marks.current;
}
