use Rattle.std.proofs.Common.{arith, ◌∙◌, sym, ap, ℕ, ◌+◌, ◌<◌, ◌≤◌, length, drop, filter}
use Rattle.std.specs.List.{flat_map}
use Rattle.testing_rules_items.specs.declared.item.HintItem.{HintItem}
use Rattle.testing_rules_model.specs.Unstable.{is_in_force}
use Rattle.testing_rules_model.specs.Suite.{Suite}
use Rattle.testing_rules_moves.specs.steps.Runs.{RunBasis, Run, go_on}
use Rattle.testing_rules_model.specs.Updates.{Outcome, in_turn, remove_item, removals_of}
use Rattle.testing_rules_moves.proofs.Runs.{run_hint-next, run_hint-skipped, run_hints-over}
use Rattle.testing_rules_moves.proofs.turns.Turns.removals.Goals as goal
use Rattle.testing_rules_moves.proofs.turns.Turns.removals.Goals.{then-is_in_force+in_ok-remove_hint, else-is_in_force}

pub loop-hint-preserved : goal.loop-hint-preserved
loop-hint-preserved c =
    let hints = c.args.hints.now in
    let i = c.loop-hint.hint-index in
    let d = c.hint-item.result in
    let step : RunBasis → ℕ × HintItem → Suite → Outcome = λ b. remove_item b.archs in
    let stands = is_in_force c.args.unhints.now in
    let below : i < length hints = omega arith in
    let test = ap stands (sym c.hint-item.is) ∙ sym c.is_in_force.ensures in
    elim c.if-is_in_force.branch [
      | then-is_in_force+in_ok-remove_hint w ↦
          ap (λ (r : Run). go_on r (λ b. in_turn (step b) (flat_map removals_of (filter stands (drop (i + 1) hints)))))
          (w.self-is ∙ w.in_ok-remove_hint.ensures ∙ ap (λ h. go_on c.loop-hint.self (λ b. in_turn (step b) (removals_of h))) c.hint-item.is)
          ∙ run_hint-next step removals_of stands hints i d below (test ∙ w.if-is_in_force.true) c.loop-hint.self
          ∙ c.loop-hint.invariant
      | else-is_in_force w ↦
          ap (λ (r : Run). go_on r (λ b. in_turn (step b) (flat_map removals_of (filter stands (drop (i + 1) hints))))) w.self-is
          ∙ run_hint-skipped step removals_of stands hints i d below (test ∙ w.if-is_in_force.false) c.loop-hint.self
          ∙ c.loop-hint.invariant
    ]

pub returns : goal.returns
returns c =
    let hints = c.args.hints.now in
    let over : length hints ≤ c.loop-hint.hint-index = omega arith in
    let step : RunBasis → ℕ × HintItem → Suite → Outcome = λ b. remove_item b.archs in
    sym (run_hints-over step removals_of (is_in_force c.args.unhints.now) hints c.loop-hint.hint-index over c.loop-hint.self) ∙ c.loop-hint.invariant
