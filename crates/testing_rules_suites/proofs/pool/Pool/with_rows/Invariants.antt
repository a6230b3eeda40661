use Rattle.std.proofs.Common.{◌≡◌, ◌++◌, take}
use Rattle.testing_rules_model.specs.JudgedRows.{lent}
use Rattle.testing_rules_suites.specs.steps.Pools.{IsPool}
use Rattle.testing_rules_suites.proofs.pool.Pool.with_rows.Given as goal

-- those so far
abbrev pub invariant-loop-row : goal.invariant-loop-row
invariant-loop-row l =
    record {
      so_far : l.rows.items ≡ l.fn.self ++ lent (take l.row-index l.more);
      indexed : IsPool l.rows.items l.by_source l.by_name;
    }
