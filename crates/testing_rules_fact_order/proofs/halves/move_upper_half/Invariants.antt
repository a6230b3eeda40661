use Rattle.std.proofs.Common.{◌≡◌, ◌+◌, ◌≤◌, ◌++◌, reverse, vec_len}
use Rattle.std.specs.Prelude.{vec_capacity}
use Rattle.testing_rules_fact_order.proofs.halves.move_upper_half.Given as goal

-- those that moved stand in the upper half the other way round
abbrev pub invariant-moved : goal.invariant-moved
invariant-moved l =
    record {
      all : l.rows.items ++ reverse l.upper.items ≡ l.fn.rows.items;
      count : vec_len l.rows + vec_len l.upper ≡ 64;
      lower : 32 ≤ vec_len l.rows;
      room : 64 ≤ vec_capacity l.upper;
      capacity : vec_capacity l.rows ≡ vec_capacity l.fn.rows;
    }

abbrev pub decreases-moved : goal.decreases-moved
decreases-moved l = vec_len l.rows
