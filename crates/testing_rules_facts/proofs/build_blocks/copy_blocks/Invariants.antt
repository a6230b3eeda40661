use Rattle.std.proofs.Common.{◌≡◌, take}
use Rattle.testing_rules_facts.proofs.build_blocks.copy_blocks.Given as goal

-- those so far
abbrev pub invariant-loop-block : goal.invariant-loop-block
invariant-loop-block l = l.copies.items ≡ take l.block-index l.blocks
