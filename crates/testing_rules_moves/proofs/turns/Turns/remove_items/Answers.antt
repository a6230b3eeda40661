use Rattle.std.proofs.Common.{arith, ◌∙◌, sym, ap, ℕ, ◌+◌, ◌<◌, ◌≤◌, length, drop, map}
use Rattle.testing_rules_items.specs.declared.item.HintItem.{HintItem}
use Rattle.testing_rules_model.specs.Suite.{Suite}
use Rattle.testing_rules_moves.specs.steps.Runs.{RunBasis, Run, go_on}
use Rattle.testing_rules_model.specs.Updates.{Outcome, in_turn, remove_item}
use Rattle.testing_rules_moves.proofs.Runs.{run-next, run-over}
use Rattle.testing_rules_moves.proofs.turns.Turns.remove_items.Goals as goal

pub loop-item-preserved : goal.loop-item-preserved
loop-item-preserved c =
    let items = c.args.items.now in
    let i = c.loop-item.item-index in
    let d = c.item-item.result in
    let step : RunBasis → ℕ × HintItem → Suite → Outcome = λ b. remove_item b.archs in
    let f : HintItem → ℕ × HintItem = λ x. (c.args.hint, x) in
    let below : i < length items = omega arith in
    ap (λ (r : Run). go_on r (λ b. in_turn (step b) (map f (drop (i + 1) items))))
    (c.in_ok-remove_item.ensures ∙ ap (λ x. go_on c.loop-item.self (λ b. step b (f x))) c.item-item.is)
    ∙ run-next step f items i d below c.loop-item.self
    ∙ c.loop-item.invariant

pub returns : goal.returns
returns c =
    let items = c.args.items.now in
    let f : HintItem → ℕ × HintItem = λ x. (c.args.hint, x) in
    let over : length items ≤ c.loop-item.item-index = omega arith in
    let step : RunBasis → ℕ × HintItem → Suite → Outcome = λ b. remove_item b.archs in
    sym (run-over step f items c.loop-item.item-index c.loop-item.self over) ∙ c.loop-item.invariant
