use Rattle.std.proofs.Common.{◌∙◌, sym}
use Rattle.testing_rules_moves.proofs.breaks.broken_in_suites_by_move.Goals as goal

pub broken_by_change-requires-clause-change : goal.broken_by_change-requires-clause-change
broken_by_change-requires-clause-change c = record {
  offered = sym c.offers.ensures ∙ c.if-not-offers.false;
  within = c.in_ok-change.ensures.within;
  moves = c.in_ok-change.ensures.moves;
}

pub returns-clause-change : goal.returns-clause-change
returns-clause-change c = record {
  offered = sym c.offers.ensures ∙ c.if-not-offers.false;
  within = c.in_ok-change.ensures.within;
  moves = c.in_ok-change.ensures.moves;
}
