use Rattle.std.proofs.Common.{◌≡◌, List}
use Rattle.testing_rules_model.specs.declared.excuse.Excuse.{Excuse}
use Rattle.testing_rules_moves.specs.steps.Refusals.{excuses_of, AreNumbered, AreRefused}
use Rattle.testing_rules_moves.specs.steps.Runs.{moment_of}
use Rattle.testing_rules_moves.proofs.Trying.{IsSearching}
use Rattle.testing_rules_moves.proofs.turns.Turns.move_next.Given as goal

-- none so far may move
abbrev pub invariant-loop-place : goal.invariant-loop-place
invariant-loop-place l = record {
  circle : l.circle ≡ l.fn.circle;
  tried : (excuses : List Excuse) → AreNumbered excuses l.fn.circle.items → AreRefused (moment_of l.fn.self) excuses l.fn.refusals
      → IsSearching l.fn.self l.self excuses (excuses_of l.fn.circle.items) l.refusals l.place;
}
