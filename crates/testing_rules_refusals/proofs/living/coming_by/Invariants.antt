use Rattle.std.proofs.Common.{◌≡◌, take, filter}
use Rattle.testing_rules_model.specs.Boxed.{unboxed}
use Rattle.testing_rules_model.specs.JudgedRows.{lent}
use Rattle.testing_rules_refusals.specs.steps.Standing.{comes_by}
use Rattle.testing_rules_refusals.proofs.living.coming_by.Given as goal

-- those so far
abbrev pub invariant-loop-row : goal.invariant-loop-row
invariant-loop-row l = lent l.coming.items ≡ filter (comes_by (unboxed l.unstable.sources.now) l.live.keys) (lent (take l.row-index l.unstable.rows.now))
