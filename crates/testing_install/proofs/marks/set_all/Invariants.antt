use Rattle.std.proofs.Common.{◌≡◌, drop, length}
use Rattle.testing_install.specs.Among.{with_all}
use Rattle.testing_install.proofs.marks.set_all.Given as goal

abbrev pub invariant-loop-place : goal.invariant-loop-place
invariant-loop-place l = record {
  left : with_all l.mark (drop l.place-index l.places) l.marks.current ≡ with_all l.mark l.places l.fn.marks.current;
  long : length l.marks.current ≡ length l.fn.marks.current;
  kept : l.marks.kept ≡ l.fn.marks.kept;
}
