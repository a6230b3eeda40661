use Rattle.std.proofs.Common.{◌≡◌, ℕ, ◌+◌, ◌-◌, ◌≤◌, ◌==◌, not, List, length, drop, arith, rules}
use Rattle.std.specs.List.{position_or_len}
use Rattle.std.proofs.lemmas.List.{take_rest, length-drop}
use Rattle.std.proofs.lemmas.List.Sums.{prefix_len-le-length}
use Rattle.deb_control.proofs.grammar.count_items.Goals as goal

-- the next separator is within the text, or at its end
step_within : (text : List ℕ) (separator end step : ℕ) → step ≡ position_or_len (λ b. b == separator) (drop (end + 1) text) → step ≤ length text - (end + 1)
step_within text separator end step at = omega (arith, at, prefix_len-le-length (λ b. not (b == separator)) (drop (end + 1) text), length-drop (end + 1) text)

pub items-init : goal.items-init
items-init c = (omega arith, omega (arith, c.index_of-end.ensures, prefix_len-le-length (λ b. not (b == c.args.separator)) c.args.text.now))

pub overflow_add-end-in-items : goal.overflow_add-end-in-items
overflow_add-end-in-items c =
    let step = step_within c.args.text.now c.args.separator c.items.end c.index_of.result (rw take_rest at c.index_of.ensures) in
    search rules

pub overflow_add-end-in-items-2 : goal.overflow_add-end-in-items-2
overflow_add-end-in-items-2 c =
    let step = step_within c.args.text.now c.args.separator c.items.end c.index_of.result (rw take_rest at c.index_of.ensures) in
    search rules

pub items-preserved : goal.items-preserved
items-preserved c =
    let step = step_within c.args.text.now c.args.separator c.items.end c.index_of.result (rw take_rest at c.index_of.ensures) in
    (omega (arith, c.items.invariant.0), omega (arith, step, c.items-test.true))
