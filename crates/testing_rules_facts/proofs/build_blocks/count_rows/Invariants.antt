use Rattle.std.proofs.Common.{◌≡◌, ◌*◌, ◌≤◌, length, take}
use Rattle.testing_rules_facts.specs.Blocks.{joined}
use Rattle.testing_rules_facts.proofs.build_blocks.count_rows.Given as goal

-- the rows of the blocks so far
abbrev pub invariant-counted : goal.invariant-counted
invariant-counted l = (l.count ≡ length (joined (take l.block-index l.held))) × (l.count ≤ 64 * l.block-index)
