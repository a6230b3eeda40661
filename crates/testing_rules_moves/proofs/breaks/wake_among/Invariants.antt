use Rattle.std.proofs.Common.{take}
use Rattle.testing_rules_suites.specs.steps.AfterMoves.{rows_at}
use Rattle.testing_rules_moves.specs.steps.Refusals.{AreWoken}
use Rattle.testing_rules_moves.proofs.breaks.wake_among.Given as goal

-- those so far
abbrev pub invariant-loop-place : goal.invariant-loop-place
invariant-loop-place l = AreWoken (rows_at l.pool (take l.place-index l.coming)) l.fn.refusals l.refusals
