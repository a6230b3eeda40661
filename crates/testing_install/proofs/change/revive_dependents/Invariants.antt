use Rattle.std.proofs.Common.{◌≡◌, ◌+◌, length}
use Rattle.std.specs.List.{count_by}
use Rattle.testing_install.proofs.Needing.{places_to}
use Rattle.testing_install.specs.Closed.{marked}
use Rattle.testing_install.specs.steps.Settling.{IsRevived}
use Rattle.testing_install.proofs.change.revive_dependents.Given as goal

abbrev pub invariant-loop-provision : goal.invariant-loop-provision
invariant-loop-provision l = record {
  revived : IsRevived (marked l.there) l.fn.marks.current l.marks.current l.fn.fresh.items l.fresh.items (places_to l.dependents l.row l.provision-index) (length (places_to l.dependents l.row l.provision-index));
  long : length l.marks.current ≡ length l.there;
  kept : l.marks.kept ≡ l.fn.marks.kept;
  measure : length l.fresh.items + count_by (λ b. b) l.fn.marks.current ≡ length l.fn.fresh.items + count_by (λ b. b) l.marks.current;
}
