use Rattle.std.proofs.Common.{◌≡◌, ◌++◌}
use Rattle.std.specs.Vec.Iter.{into_iter_items}
use Rattle.testing_rules_model.specs.Covered.{placed_from}
use Rattle.testing_rules_fact_order.proofs.entry.placed.Given as goal

-- with those that are left, all are placed
abbrev pub invariant-binaries : goal.invariant-binaries
invariant-binaries l = l.builds.items ++ placed_from l.place l.sender l.number (into_iter_items l.binary-iterator) ≡ placed_from 1 l.sender l.number l.fn.binaries.items
