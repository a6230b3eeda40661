use Rattle.std.specs.List.{AllWithin}
use Rattle.testing_install_why.proofs.Naming.{IsNoProvider}
use Rattle.testing_install_why.proofs.order.is_met_at.Given as goal

abbrev pub invariant-loop-place : goal.invariant-loop-place
invariant-loop-place l = AllWithin (IsNoProvider l.suite.rows l.left l.clause) l.places 0 l.place-index
