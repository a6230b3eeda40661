use Rattle.std.proofs.Common.{◌≡◌, take}
use Rattle.testing_rules_suites.specs.steps.AfterMoves.{rows_at}
use Rattle.testing_rules_model.specs.InOrder.{AreByKey}
use Rattle.testing_rules_suites.proofs.lent_rows.copies_by_key.Given as goal

-- those so far, in order
abbrev pub invariant-loop-place : goal.invariant-loop-place
invariant-loop-place l = (l.copies.items ≡ rows_at l.pool (take l.place-index l.places)) × AreByKey l.copies.items
