use Rattle.std.proofs.Common.{◌≡◌, take}
use Rattle.testing_rules_items.proofs.item.Binaries.copy.Given as goal

abbrev pub invariant-each : goal.invariant-each
invariant-each l = l.copies.items ≡ take l.binary-index l.binaries
