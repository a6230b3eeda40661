use Rattle.std.proofs.Common.{◌≡◌, ◌<◌, ◌≤◌, ◌-◌, [], length, get_or, true, false}
use Rattle.testing_rules_facts.specs.steps.Blocks.{begins_above}
use Rattle.testing_rules_facts.proofs.build_blocks.block_for.Given as goal

-- the block stands from the low place on and before the high one
abbrev pub invariant-search : goal.invariant-search
invariant-search l =
    record {
      between : l.low < l.high;
      within : l.high ≤ length l.blocks;
      begins : 0 < l.low → begins_above (l.arch, l.name) (get_or l.blocks l.low []) ≡ false;
      ends : l.high < length l.blocks → begins_above (l.arch, l.name) (get_or l.blocks l.high []) ≡ true;
    }

abbrev pub decreases-search : goal.decreases-search
decreases-search l = l.high - l.low
