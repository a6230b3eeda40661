use Rattle.std.proofs.Common.{◌≡◌, ◌||◌, take, filter, not}
use Rattle.testing_install.specs.Closed.{marked}
use Rattle.testing_install.proofs.change.newly_lost.Given as goal

abbrev pub invariant-loop-place : goal.invariant-loop-place
invariant-loop-place l = l.lost.items ≡ filter (λ k. marked l.marks.kept k || not (marked l.there.kept k)) (take l.place-index l.fallen)
