use Rattle.std.proofs.Common.{arith, ◌≡◌, ◌∙◌, sym, ap, ◌+◌, ◌<◌, ◌≤◌, ◌++◌, length, drop, map}
use Rattle.std.specs.Borrow.{Bor}
use Rattle.testing_rules_model.specs.declared.excuse.Excuse.{Excuse}
use Rattle.testing_rules_moves.specs.steps.LentItems.{lent_excuses}
use Rattle.testing_rules_model.specs.Suite.{Suite}
use Rattle.testing_rules_moves.specs.steps.Runs.{RunBasis, Run, go_on}
use Rattle.testing_rules_model.specs.Updates.{Outcome, in_turn, remaining}
use Rattle.testing_rules_model.specs.steps.Updates.{wait}
use Rattle.testing_rules_moves.proofs.Runs.{run-next, run-over}
use Rattle.testing_rules_moves.proofs.Circle.{in_turn-wait}
use Rattle.testing_rules_moves.proofs.turns.Turns.waits.Goals as goal

pub loop-excuse-preserved : goal.loop-excuse-preserved
loop-excuse-preserved c =
    let items = c.deref-excuse-items.result.now in
    let i = c.loop-excuse.excuse-index in
    let d = c.excuse-item.result in
    let step : RunBasis → Excuse → Suite → Outcome = λ b. wait b.archs b.sources b.rows in
    let f : Bor Excuse → Excuse = λ b. b.now in
    let below : i < length items = omega arith in
    ap (λ (r : Run). go_on r (λ b. in_turn (step b) (map f (drop (i + 1) items))))
    (c.in_ok-wait.ensures ∙ ap (λ x. go_on c.loop-excuse.self (λ b. step b (f x))) c.excuse-item.is)
    ∙ run-next step f items i d below c.loop-excuse.self
    ∙ c.loop-excuse.invariant

pub returns : goal.returns
returns c =
    let items = c.deref-excuse-items.result.now in
    let i = c.loop-excuse.excuse-index in
    let step : RunBasis → Excuse → Suite → Outcome = λ b. wait b.archs b.sources b.rows in
    let f : Bor Excuse → Excuse = λ b. b.now in
    let r = c.args.self.now in
    let o = r.outcome in
    let b = r.basis in
    let excuses = c.args.excuses.now in
    let over : length items ≤ i = omega arith in
    let candidates : lent_excuses items ≡ remaining excuses o.suite =
    ap lent_excuses c.deref-excuse-items.ensures.value ∙ c.in_ok-candidates.ensures ∙ ap (λ (q : Run). remaining excuses q.outcome.suite) c.self.view_is in
    sym (run-over step f items i c.loop-excuse.self over)
    ∙ c.loop-excuse.invariant
    ∙ ap (λ es. go_on r (λ b. in_turn (step b) es)) candidates
    ∙ ap (λ (p : Outcome). record { basis = b; outcome = record { decisions = o.decisions ++ p.decisions; suite = p.suite } }) (in_turn-wait b.archs b.sources b.rows (remaining excuses o.suite) o.suite)
