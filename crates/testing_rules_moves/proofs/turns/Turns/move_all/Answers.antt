use Rattle.std.proofs.Common.{◌∙◌, sym, ap, subst}
use Rattle.testing_rules_model.specs.steps.Updates.{move_circle}
use Rattle.testing_rules_moves.specs.steps.LentItems.{lent_excuses}
use Rattle.testing_rules_moves.specs.steps.Refusals.{excuses_of, AreNumbered}
use Rattle.testing_rules_moves.specs.steps.Runs.{go_on}
use Rattle.testing_rules_moves.proofs.turns.Turns.move_all.Goals as goal

pub moves-init : goal.moves-init
moves-init c =
    let candidates = lent_excuses c.args.candidates.now in
    record {
      left = ap (λ es. go_on c.args.self.now (λ b. move_circle b.archs b.sources b.rows es)) (ap excuses_of c.from-circle.ensures.0 ∙ c.in_ok-with_numbers.ensures.excuses);
      numbered = subst (AreNumbered candidates) (sym c.from-circle.ensures.0) c.in_ok-with_numbers.ensures.numbers;
      known = rw (← c.self.view_is) (c.in_ok-refusals.ensures candidates);
    }
