use Rattle.std.proofs.Common.{◌≡◌, take}
use Rattle.testing_rules_moves.specs.steps.LentItems.{lent_excuses}
use Rattle.testing_rules_moves.specs.steps.Refusals.{excuses_of, AreNumbered}
use Rattle.testing_rules_moves.proofs.refusals.with_numbers.Given as goal

-- those so far
abbrev pub invariant-loop-number : goal.invariant-loop-number
invariant-loop-number l = record {
  excuses : excuses_of l.circle.items ≡ lent_excuses (take l.number l.candidates);
  numbers : AreNumbered (lent_excuses l.candidates) l.circle.items;
}
