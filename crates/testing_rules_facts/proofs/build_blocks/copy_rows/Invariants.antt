use Rattle.std.proofs.Common.{◌≡◌, ◌≤◌, take, vec_capacity}
use Rattle.testing_rules_facts.proofs.build_blocks.copy_rows.Given as goal

-- those so far
abbrev pub invariant-loop-build : goal.invariant-loop-build
invariant-loop-build l =
    record {
      so_far : l.copies.items ≡ take l.build-index l.rows;
      room : 64 ≤ vec_capacity l.copies;
    }
