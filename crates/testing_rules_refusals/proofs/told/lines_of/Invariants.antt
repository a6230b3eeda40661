use Rattle.std.proofs.Common.{◌≡◌, map}
use Rattle.std.specs.List.{filter_map, range_with_len}
use Rattle.testing_rules_model.specs.JudgedRows.{lent}
use Rattle.testing_rules_refusals.specs.Told.{told_of, told_at}
use Rattle.testing_rules_refusals.proofs.told.lines_of.Given as goal

-- those so far
abbrev pub invariant-loop-before : goal.invariant-loop-before
invariant-loop-before l =
    map told_of l.lines.items
    ≡ filter_map (told_at (lent l.shown.rows.now) l.shown.steps.now (lent l.shown.before.now) (lent l.shown.unstable.now)) (range_with_len 1 l.before)
