use Rattle.std.proofs.Common.{arith, ◌∙◌, sym, ap, ◌+◌, ◌<◌, ◌≤◌, length, drop, filter}
use Rattle.testing_rules_model.specs.Unstable.{is_in_force}
use Rattle.testing_rules_model.specs.Suite.{Suite}
use Rattle.testing_rules_model.specs.declared.facts.HintIn.{HintIn}
use Rattle.testing_rules_moves.specs.steps.Runs.{RunBasis, Run, go_on}
use Rattle.testing_rules_model.specs.Updates.{Outcome, in_turn, move_easy}
use Rattle.testing_rules_moves.proofs.Runs.{run_passing-next, run_passing-skipped, run_passing-over}
use Rattle.testing_rules_moves.proofs.turns.Turns.groups.Goals as goal
use Rattle.testing_rules_moves.proofs.turns.Turns.groups.Goals.{then-is_in_force+in_ok-move_easy, else-is_in_force}

pub loop-hint-preserved : goal.loop-hint-preserved
loop-hint-preserved c =
    let hints = c.args.hints.now in
    let i = c.loop-hint.hint-index in
    let d = c.hint-item.result in
    let step : RunBasis → HintIn → Suite → Outcome = λ b. move_easy b.archs b.sources b.rows c.args.excuses.now in
    let stands = is_in_force c.args.unhints.now in
    let below : i < length hints = omega arith in
    let test = ap stands (sym c.hint-item.is) ∙ sym c.is_in_force.ensures in
    elim c.if-is_in_force.branch [
      | then-is_in_force+in_ok-move_easy w ↦
          ap (λ (r : Run). go_on r (λ b. in_turn (step b) (filter stands (drop (i + 1) hints))))
          (w.self-is ∙ w.in_ok-move_easy.ensures ∙ ap (λ h. go_on c.loop-hint.self (λ b. step b h)) c.hint-item.is)
          ∙ run_passing-next step stands hints i d below (test ∙ w.if-is_in_force.true) c.loop-hint.self
          ∙ c.loop-hint.invariant
      | else-is_in_force w ↦
          ap (λ (r : Run). go_on r (λ b. in_turn (step b) (filter stands (drop (i + 1) hints)))) w.self-is
          ∙ run_passing-skipped step stands hints i d below (test ∙ w.if-is_in_force.false) c.loop-hint.self
          ∙ c.loop-hint.invariant
    ]

pub returns : goal.returns
returns c =
    let hints = c.args.hints.now in
    let step : RunBasis → HintIn → Suite → Outcome = λ b. move_easy b.archs b.sources b.rows c.args.excuses.now in
    let over : length hints ≤ c.loop-hint.hint-index = omega arith in
    sym (run_passing-over step (is_in_force c.args.unhints.now) hints c.loop-hint.hint-index over c.loop-hint.self) ∙ c.loop-hint.invariant
