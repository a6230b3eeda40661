-- The steps of a run's loops.
use Rattle.std.specs.Prelude.{ℕ, ◌+◌, ◌<◌, ◌≤◌, Bool, true, false, List, [], ◌∷◌, ◌++◌, Option, Some, None, length, take, drop, get_or, map, filter, find}
use Rattle.std.specs.List.{flat_map, position_or_len}
use Rattle.std.proofs.Common.{◌≡◌, ◌∙◌, sym, ap}
use Rattle.testing_rules_items.specs.Words.{Text}
use Rattle.testing_rules_model.specs.declared.excuse.Excuse.{Excuse}
use Rattle.testing_rules_model.specs.declared.update.Offender.{Offender}
use Rattle.testing_rules_model.specs.Suite.{Suite}
use Rattle.testing_rules_moves.specs.steps.Runs.{RunBasis, Run, go_on, moment_of, broken_by_move}
use Rattle.testing_rules_model.specs.Updates.{Outcome, then_do, in_turn, decide, offender_alone, moved_alone}
use Rattle.testing_rules_model.specs.steps.Updates.{accepted, waiting, is_allowed_alone, move_circle, wait}
use Rattle.testing_rules_moves.proofs.InTurn.{turn-next, turns-over, hint-next, hint-skipped, hints-over, passing-next, passing-skipped, passing-over}
use Rattle.testing_rules_moves.proofs.Circle.{circle-next, circle-over, wait-for, wait-none}

-- the run with another outcome
abbrev with_outcome : Run → Outcome → Run
with_outcome r o = record { basis = r.basis; outcome = o }

module _ {A B : Type 0} (step : RunBasis → B → Suite → Outcome) (f : A → B) (xs : List A) (i : ℕ) where
  -- one turn of those from i on
  pub run-next : (d : A) → i < length xs → (r : Run)
      → go_on (go_on r (λ b. step b (f (get_or xs i d)))) (λ b. in_turn (step b) (map f (drop (i + 1) xs))) ≡ go_on r (λ b. in_turn (step b) (map f (drop i xs)))
  run-next d below r = ap (with_outcome r) (turn-next (step r.basis) f xs i d below r.outcome)

  -- no turn is left
  pub run-over : (r : Run) → length xs ≤ i → go_on r (λ b. in_turn (step b) (map f (drop i xs))) ≡ r
  run-over r h = ap (with_outcome r) (turns-over (step r.basis) f xs i r.outcome h)

module _ {A B : Type 0} (step : RunBasis → B → Suite → Outcome) (turns : A → List B) (test : A → Bool) (hs : List A) (i : ℕ) where
  -- the turns of one element that passes
  pub run_hint-next : (d : A) → i < length hs → test (get_or hs i d) ≡ true → (r : Run)
      → go_on (go_on r (λ b. in_turn (step b) (turns (get_or hs i d)))) (λ b. in_turn (step b) (flat_map turns (filter test (drop (i + 1) hs))))
      ≡ go_on r (λ b. in_turn (step b) (flat_map turns (filter test (drop i hs))))
  run_hint-next d below e r = ap (with_outcome r) (hint-next (step r.basis) turns test hs i d below e r.outcome)

  -- one element that doesn't pass
  pub run_hint-skipped : (d : A) → i < length hs → test (get_or hs i d) ≡ false → (r : Run)
      → go_on r (λ b. in_turn (step b) (flat_map turns (filter test (drop (i + 1) hs)))) ≡ go_on r (λ b. in_turn (step b) (flat_map turns (filter test (drop i hs))))
  run_hint-skipped d below e r = ap (with_outcome r) (hint-skipped (step r.basis) turns test hs i d below e r.outcome)

  -- no turn is left
  pub run_hints-over : length hs ≤ i → (r : Run) → go_on r (λ b. in_turn (step b) (flat_map turns (filter test (drop i hs)))) ≡ r
  run_hints-over h r = ap (with_outcome r) (hints-over (step r.basis) turns test hs i h r.outcome)

module _ {A : Type 0} (step : RunBasis → A → Suite → Outcome) (test : A → Bool) (hs : List A) (i : ℕ) where
  -- the turn of one element that passes
  pub run_passing-next : (d : A) → i < length hs → test (get_or hs i d) ≡ true → (r : Run)
      → go_on (go_on r (λ b. step b (get_or hs i d))) (λ b. in_turn (step b) (filter test (drop (i + 1) hs))) ≡ go_on r (λ b. in_turn (step b) (filter test (drop i hs)))
  run_passing-next d below e r = ap (with_outcome r) (passing-next (step r.basis) test hs i d below e r.outcome)

  -- one element that doesn't pass
  pub run_passing-skipped : (d : A) → i < length hs → test (get_or hs i d) ≡ false → (r : Run)
      → go_on r (λ b. in_turn (step b) (filter test (drop (i + 1) hs))) ≡ go_on r (λ b. in_turn (step b) (filter test (drop i hs)))
  run_passing-skipped d below e r = ap (with_outcome r) (passing-skipped (step r.basis) test hs i d below e r.outcome)

  -- no turn is left
  pub run_passing-over : length hs ≤ i → (r : Run) → go_on r (λ b. in_turn (step b) (filter test (drop i hs))) ≡ r
  run_passing-over h r = ap (with_outcome r) (passing-over (step r.basis) test hs i h r.outcome)

-- whether the candidate may move alone
abbrev pub allowed_in : Run → Excuse → Bool
allowed_in r = is_allowed_alone r.basis.archs r.basis.sources r.basis.rows r.outcome.suite

-- the single moves of a circle
abbrev pub circle_in : List Excuse → RunBasis → Suite → Outcome
circle_in es b = move_circle b.archs b.sources b.rows es

-- a candidate moves alone
abbrev pub alone_in : Excuse → RunBasis → Suite → Outcome
alone_in e b t = decide (accepted e) (moved_alone b.sources b.rows t e)

-- no candidate of the circle may move
pub run_circle-over : (es : List Excuse) (r : Run) → find (allowed_in r) es ≡ None → go_on r (circle_in es) ≡ r
run_circle-over es r e = ap (with_outcome r) (circle-over r.basis.archs r.basis.sources r.basis.rows es r.outcome e)

-- the first that may goes, and then those behind it come first
pub run_circle-next : (es : List Excuse) (i : ℕ) (d : Excuse) → i < length es → (r : Run) → position_or_len (allowed_in r) es ≡ i
    → go_on r (circle_in es) ≡ go_on (go_on r (alone_in (get_or es i d))) (circle_in (drop (i + 1) es ++ take i es))
run_circle-next es i d below r at = ap (with_outcome r) (circle-next r.basis.archs r.basis.sources r.basis.rows es i d below r.outcome at)

-- what the move of the candidate alone would break, told of the run's testing
pub told_alone : (q r : Run) (group : List Text) (e : Excuse) (o : Option Offender) → q ≡ r → group ≡ e.source ∷ [] → o ≡ broken_by_move group (moment_of q)
    → offender_alone r.basis.archs r.basis.sources r.basis.rows r.outcome.suite e ≡ o
told_alone q r group e o same alone told =
    sym (told ∙ ap (λ g. broken_by_move g (moment_of q)) alone ∙ ap (λ (p : Run). broken_by_move (e.source ∷ []) (moment_of p)) same)

-- a candidate waits for what its move would break
pub run_wait-for : (e : Excuse) (o : Offender) (r : Run) → offender_alone r.basis.archs r.basis.sources r.basis.rows r.outcome.suite e ≡ Some o
    → go_on r (λ b. wait b.archs b.sources b.rows e) ≡ go_on r (λ b. decide (waiting e o))
run_wait-for e o r h = ap (λ p. with_outcome r (then_do r.outcome (λ t. p))) (wait-for r.basis.archs r.basis.sources r.basis.rows e o r.outcome.suite h)

-- one whose move would break nothing doesn't wait
pub run_wait-none : (e : Excuse) (r : Run) → offender_alone r.basis.archs r.basis.sources r.basis.rows r.outcome.suite e ≡ None
    → go_on r (λ b. wait b.archs b.sources b.rows e) ≡ r
run_wait-none e r h = ap (with_outcome r) (wait-none r.basis.archs r.basis.sources r.basis.rows e r.outcome h)
