use Rattle.std.proofs.Common.{arith, ◌≤◌, length}
use Rattle.std.proofs.lemmas.List.{take_all}
use Rattle.testing_rules_facts.proofs.build_blocks.copy_blocks.Goals as goal

pub returns : goal.returns
returns c =
    let over : length c.args.blocks.now ≤ c.loop-block.block-index = omega arith in
    rw (take_all c.loop-block.block-index c.args.blocks.now over) at c.loop-block.invariant
