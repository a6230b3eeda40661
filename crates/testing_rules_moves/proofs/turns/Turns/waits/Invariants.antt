use Rattle.std.proofs.Common.{◌≡◌, drop}
use Rattle.testing_rules_moves.specs.steps.LentItems.{lent_excuses}
use Rattle.testing_rules_moves.specs.steps.Runs.{go_on}
use Rattle.testing_rules_model.specs.Updates.{in_turn}
use Rattle.testing_rules_model.specs.steps.Updates.{wait}
use Rattle.testing_rules_moves.proofs.turns.Turns.waits.Given as goal

-- those so far and those of the rest are all
abbrev pub invariant-loop-excuse : goal.invariant-loop-excuse
invariant-loop-excuse l =
    go_on l.self (λ b. in_turn (wait b.archs b.sources b.rows) (lent_excuses (drop l.excuse-index l.excuse-items)))
    ≡ go_on l.fn.self (λ b. in_turn (wait b.archs b.sources b.rows) (lent_excuses l.excuse-items))
