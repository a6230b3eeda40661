use Rattle.std.proofs.Common.{◌≡◌, ◌+◌, ◌++◌, ◌≤◌, ◌<◌, vec_len}
use Rattle.std.specs.Prelude.{vec_capacity}
use Rattle.testing_rules_model.specs.Boxed.{unboxed}
use Rattle.testing_rules_facts.specs.Blocks.{joined}
use Rattle.testing_rules_facts.specs.steps.Blocks.{AreBlocks}
use Rattle.testing_rules_facts.specs.steps.ElementShifts.{shift_builds}
use Rattle.testing_rules_model.specs.FactOrder.{AreByPair}
use Rattle.testing_rules_model.specs.WithMessage.{with_builds}
use Rattle.testing_rules_model.specs.steps.WithMessage.{stands_beside}
use Rattle.testing_rules_facts.proofs.build_blocks.put_builds.Given as goal

-- those left are still to join, there is room for them, and the rows are in order
abbrev pub invariant-builds : goal.invariant-builds
invariant-builds l =
    record {
      rows : with_builds (stands_beside (unboxed l.drops)) l.left.items (joined l.held.items) ≡ with_builds (stands_beside (unboxed l.drops)) l.fn.coming.items (joined l.fn.held.items);
      came : l.log.came.items ++ (shift_builds (stands_beside (unboxed l.drops)) l.left.items (joined l.held.items)).came
          ≡ l.fn.log.came.items ++ (shift_builds (stands_beside (unboxed l.drops)) l.fn.coming.items (joined l.fn.held.items)).came;
      gone : l.log.left.items ++ (shift_builds (stands_beside (unboxed l.drops)) l.left.items (joined l.held.items)).left
          ≡ l.fn.log.left.items ++ (shift_builds (stands_beside (unboxed l.drops)) l.fn.coming.items (joined l.fn.held.items)).left;
      room_came : vec_len l.log.came + vec_len l.left ≤ vec_capacity l.log.came;
      room_left : vec_len l.log.left + vec_len l.left ≤ vec_capacity l.log.left;
      len : vec_len l.log.left + vec_len l.left ≤ vec_len l.fn.log.left + vec_len l.fn.coming;
      capacity : vec_capacity l.fn.log.left ≤ vec_capacity l.log.left;
      order : AreByPair (joined l.held.items);
      filled : AreBlocks l.held.items;
      some : 0 < vec_len l.held;
      room : vec_len l.held + vec_len l.left ≤ vec_capacity l.held;
      spares : vec_len l.left ≤ vec_len l.spares;
    }

abbrev pub decreases-builds : goal.decreases-builds
decreases-builds l = vec_len l.left
