use Rattle.std.proofs.Common.{◌≡◌, ◌&&◌, take, filter, not}
use Rattle.testing_install.specs.Closed.{marked}
use Rattle.testing_install.proofs.marks.difference.Given as goal

abbrev pub invariant-loop-place : goal.invariant-loop-place
invariant-loop-place l = l.list.items ≡ filter (λ k. marked l.first k && not (marked l.second k)) (take l.place-index l.places)
