use Rattle.std.proofs.Common.{◌≡◌}
use Rattle.std.specs.VecDeque.{deque_len}
use Rattle.testing_rules_model.specs.steps.Updates.{move_circle}
use Rattle.testing_rules_moves.specs.steps.LentItems.{lent_excuses}
use Rattle.testing_rules_moves.specs.steps.Refusals.{excuses_of, AreNumbered, AreRefused}
use Rattle.testing_rules_moves.specs.steps.Runs.{go_on, moment_of}
use Rattle.testing_rules_moves.proofs.turns.Turns.move_all.Given as goal

-- the moves so far and those of the circle are all
abbrev pub invariant-moves : goal.invariant-moves
invariant-moves l = record {
  left : go_on l.self (λ b. move_circle b.archs b.sources b.rows (excuses_of l.circle.items))
      ≡ go_on l.fn.self (λ b. move_circle b.archs b.sources b.rows (lent_excuses l.candidates));
  numbered : AreNumbered (lent_excuses l.candidates) l.circle.items;
  known : AreRefused (moment_of l.self) (lent_excuses l.candidates) l.refusals;
}

abbrev pub decreases-moves : goal.decreases-moves
decreases-moves l = deque_len l.circle
