-- Single moves: the next candidate of the circle that may move, and the candidates that wait.
use Rattle.std.specs.Prelude.{ℕ, zero, suc, ◌+◌, ◌<◌, ◌≤◌, Bool, true, false, List, [], ◌∷◌, ◌++◌, Option, Some, None, find, length, take, drop, get_or, option_map}
use Rattle.std.specs.List.{filter_map, cons_option, position_or_len, before_first, after_first, slice_get}
use Rattle.std.specs.Option.{option_to_list}
use Rattle.std.proofs.Common.{◌≡◌, refl, sym, ap, ◌∙◌, arith, add-one}
use Rattle.std.proofs.lemmas.List.{drop_all, length-append, length-drop, length-take-le}
use Rattle.std.proofs.lemmas.List.Folds.{find_at}
use Rattle.std.proofs.lemmas.Option.{slice_get-get_or, slice_get_past}
use Rattle.std.proofs.Math.Seq.{drop-cons}
use Rattle.testing_rules_model.specs.declared.facts.UploadIn.{UploadIn}
use Rattle.testing_rules_model.specs.declared.suite.RowIn.{RowIn}
use Rattle.testing_rules_model.specs.declared.excuse.Excuse.{Excuse}
use Rattle.testing_rules_model.specs.declared.update.Offender.{Offender}
use Rattle.testing_rules_model.specs.Suite.{Suite}
use Rattle.testing_rules_items.specs.Words.{Text}
use Rattle.testing_rules_model.specs.Updates.{Outcome, then_do, decide, nothing, in_turn, offender_alone, moved_alone, single_moves, wait_for}
use Rattle.testing_rules_model.specs.steps.Updates.{accepted, waiting, is_allowed_alone, move_circle, wait}
use Rattle.testing_rules_moves.proofs.InTurn.{then-then, then-nothing}

-- a list turned round to one of its elements, which then goes
turned-first : {A : Type 0} (xs ys : List A) (i : ℕ) → i < length xs → drop 1 (drop i xs ++ ys) ≡ drop (suc i) xs ++ ys
turned-first [] ys i below = absurd (omega (arith, below))
turned-first (x ∷ xs) ys zero below = refl
turned-first (x ∷ xs) ys (suc i) below = turned-first xs ys i (omega (arith, below))

pub turned : {A : Type 0} (xs : List A) (i : ℕ) → i < length xs → drop 1 (drop i xs ++ take i xs) ≡ drop (i + 1) xs ++ take i xs
turned xs i below = turned-first xs (take i xs) i below ∙ ap (λ n. drop n xs ++ take i xs) (let e : suc i ≡ i + 1 = omega arith in e)

module _ {A : Type 0} (test : A → Bool) (xs : List A) (i : ℕ) (d : A) (before : i + position_or_len test (drop i xs) ≡ position_or_len test xs) where
  -- the search for the first that passes goes on
  pub search-on : i < length xs → test (get_or xs i d) ≡ false → (i + 1) + position_or_len test (drop (i + 1) xs) ≡ position_or_len test xs
  search-on below e =
      let here : position_or_len test (drop i xs) ≡ 1 + position_or_len test (drop (i + 1) xs) = rw (drop-cons xs i d below, e, add-one) refl in
      omega (arith, here, before)

  -- or has found it
  pub search-found : i < length xs → test (get_or xs i d) ≡ true → position_or_len test xs ≡ i
  search-found below e =
      let here : position_or_len test (drop i xs) ≡ 0 = rw (drop-cons xs i d below, e) refl in
      omega (arith, here, before)

-- or has found none
pub search-over : {A : Type 0} (test : A → Bool) (xs : List A) (i : ℕ) → i + position_or_len test (drop i xs) ≡ position_or_len test xs → length xs ≤ i → find test xs ≡ None
search-over test xs i before h =
    let here : position_or_len test (drop i xs) ≡ 0 = rw (drop_all i xs h) refl in
    let past : length xs ≤ position_or_len test xs = omega (arith, here, before) in
    find_at test xs ∙ slice_get_past xs (position_or_len test xs) past

module _ (archs : List Text) (sources : List UploadIn) (rows : List RowIn) where
  abbrev allowed : Suite → Excuse → Bool
  allowed t = is_allowed_alone archs sources rows t

  -- the single moves by the first candidate that may move
  abbrev by_first : ℕ → List Excuse → Suite → Option Excuse → Outcome
  by_first n es t m = elim m [
    | None ↦ nothing t
    | Some e ↦ let rest = single_moves archs sources rows n (after_first (allowed t) es ++ before_first (allowed t) es) (moved_alone sources rows t e) in
        record { decisions = accepted e ∷ rest.decisions; suite = rest.suite }
  ]

  -- no single move where no candidate may move
  singles-none : (n : ℕ) (es : List Excuse) (t : Suite) → find (allowed t) es ≡ None → single_moves archs sources rows n es t ≡ nothing t
  singles-none zero es t e = refl
  singles-none (suc n) es t e = ap (by_first n es t) e

  pub circle-over : (es : List Excuse) (o : Outcome) → find (allowed o.suite) es ≡ None → then_do o (move_circle archs sources rows es) ≡ o
  circle-over es o e =
      ap (λ (p : Outcome). record { decisions = o.decisions ++ p.decisions; suite = p.suite }) (singles-none (length es) es o.suite e) ∙ then-nothing o

  module _ (es : List Excuse) (i : ℕ) (d : Excuse) (below : i < length es) (t : Suite) (at : position_or_len (allowed t) es ≡ i) where
    -- the first that may move goes, and then those behind it come first
    singles-next : single_moves archs sources rows (length es) es t
        ≡ then_do (decide (accepted (get_or es i d)) (moved_alone sources rows t (get_or es i d))) (move_circle archs sources rows (drop (i + 1) es ++ take i es))
    singles-next =
        let e = get_or es i d in
        let rest = drop (i + 1) es ++ take i es in
        let n = length rest in
        let same : length es ≡ suc n = omega (arith, length-append (drop (i + 1) es) (take i es), length-drop (i + 1) es, length-take-le i es (omega arith)) in
        let found : find (allowed t) es ≡ Some e = find_at (allowed t) es ∙ ap (slice_get es) at ∙ slice_get-get_or es i d below in
        let behind : after_first (allowed t) es ++ before_first (allowed t) es ≡ rest = ap (λ p. drop (p + 1) es ++ take p es) at in
        let moved = moved_alone sources rows t e in
        let as_outcome : List Excuse → Outcome = λ xs. let o = single_moves archs sources rows n xs moved in record { decisions = accepted e ∷ o.decisions; suite = o.suite } in
        ap (λ k. single_moves archs sources rows k es t) same ∙ ap (by_first n es t) found ∙ ap as_outcome behind

  pub circle-next : (es : List Excuse) (i : ℕ) (d : Excuse) → i < length es → (o : Outcome) → position_or_len (allowed o.suite) es ≡ i
      → then_do o (move_circle archs sources rows es)
      ≡ then_do (then_do o (λ t. decide (accepted (get_or es i d)) (moved_alone sources rows o.suite (get_or es i d)))) (move_circle archs sources rows (drop (i + 1) es ++ take i es))
  circle-next es i d below o at =
      let e = get_or es i d in
      let moved = moved_alone sources rows o.suite e in
      ap (λ (p : Outcome). record { decisions = o.decisions ++ p.decisions; suite = p.suite }) (singles-next es i d below o.suite at)
      ∙ sym (then-then o (λ t. decide (accepted e) moved) (move_circle archs sources rows (drop (i + 1) es ++ take i es)))

  cons-append : {A : Type 0} (m : Option A) (xs : List A) → option_to_list m ++ xs ≡ cons_option m xs
  cons-append None xs = refl
  cons-append (Some x) xs = refl

  -- candidates that wait change nothing
  pub in_turn-wait : (es : List Excuse) (t : Suite) → in_turn (wait archs sources rows) es t ≡ record { decisions = filter_map (wait_for archs sources rows t) es; suite = t }
  in_turn-wait [] t = refl
  in_turn-wait (e ∷ es) t =
      let first = option_to_list (wait_for archs sources rows t e) in
      ap (λ (p : Outcome). record { decisions = first ++ p.decisions; suite = p.suite }) (in_turn-wait es t)
      ∙ ap (λ ds. record { decisions = ds; suite = t }) (cons-append (wait_for archs sources rows t e) (filter_map (wait_for archs sources rows t) es))

  -- a candidate waits for what its move would break
  pub wait-for : (e : Excuse) (o : Offender) (t : Suite) → offender_alone archs sources rows t e ≡ Some o → wait archs sources rows e t ≡ decide (waiting e o) t
  wait-for e o t h = ap (λ (m : Option Offender). record { decisions = option_to_list (option_map (waiting e) m); suite = t }) h

  pub wait-none : (e : Excuse) (o : Outcome) → offender_alone archs sources rows o.suite e ≡ None → then_do o (wait archs sources rows e) ≡ o
  wait-none e o h =
      ap (λ (m : Option Offender). record { decisions = o.decisions ++ option_to_list (option_map (waiting e) m); suite = o.suite }) h ∙ then-nothing o
