-- Single moves go on until none is allowed.
use Rattle.std.specs.Prelude.{ℕ, zero, suc, ◌+◌, ◌<◌, ◌≤◌, ◌⊎◌, Bool, true, false, cond, List, [], ◌∷◌, ◌++◌, Option, Some, None, find, length, is_some, get_or}
use Rattle.std.specs.List.{AllByRecursion, before_first, after_first, position_or_len}
use Rattle.std.proofs.Common.{◌≡◌, refl, sym, ap, ◌∙◌, subst, arith, ⊎_elim, inl, inr}
use Rattle.std.proofs.lemmas.Bool.{false≢true, cases_lt}
use Rattle.std.proofs.lemmas.List.{length-append}
use Rattle.std.proofs.lemmas.List.Elements.{Contains-append_right}
use Rattle.std.proofs.lemmas.List.Folds.{find_at}
use Rattle.std.proofs.lemmas.List.Sums.{split_at_first}
use Rattle.std.proofs.lemmas.Option.{same_Some, slice_get-get_or, slice_get_past}
use Rattle.testing_rules_model.specs.declared.facts.UploadIn.{UploadIn}
use Rattle.testing_rules_model.specs.declared.suite.RowIn.{RowIn}
use Rattle.testing_rules_model.specs.declared.excuse.Excuse.{Excuse}
use Rattle.testing_rules_model.specs.Suite.{Suite}
use Rattle.testing_rules_items.specs.Words.{Text}
use Rattle.testing_rules_model.specs.Updates.{Outcome, nothing, moved_alone, single_moves}
use Rattle.testing_rules_model.specs.steps.Updates.{accepted, is_allowed_alone}
use Rattle.testing_rules_laws.specs.MoveLaws.{HasMovedOrMayNot}
use Rattle.testing_rules_items.proofs.Each.{each-weaker, each-append}

module _ {A : Type 0} where
  fails_at : (test : A → Bool) (x : A) (b : Bool) (xs : List A) → test x ≡ b → cond b (Some x) (find test xs) ≡ None
      → (find test xs ≡ None → AllByRecursion (λ y. test y ≡ false) xs) → AllByRecursion (λ y. test y ≡ false) (x ∷ xs)
  fails_at test x true xs e h more = absurd (false≢true (sym (ap is_some h)))
  fails_at test x false xs e h more = (e, more h)

  -- where none is found, none passes
  none_found : (test : A → Bool) (xs : List A) → find test xs ≡ None → AllByRecursion (λ y. test y ≡ false) xs
  none_found test [] e = tt
  none_found test (x ∷ xs) e = fails_at test x (test x) xs refl e (none_found test xs)

  front : (P : A → Type 0) (xs ys : List A) → AllByRecursion P (xs ++ ys) → AllByRecursion P xs
  front P [] ys h = tt
  front P (x ∷ xs) ys h = (h.0, front P xs ys h.1)

  back : (P : A → Type 0) (xs ys : List A) → AllByRecursion P (xs ++ ys) → AllByRecursion P ys
  back P [] ys h = h
  back P (x ∷ xs) ys h = back P xs ys h.1

  module _ (test : A → Bool) (xs : List A) (x : A) (found : find test xs ≡ Some x) where
    inside : position_or_len test xs < length xs
    inside =
        ⊎_elim (λ l. l) (λ l. absurd (false≢true (sym (ap is_some (sym found ∙ find_at test xs ∙ slice_get_past xs (position_or_len test xs) (omega (arith, l)))))))
        (cases_lt (position_or_len test xs) (length xs))

    -- a list is what stands before the one that is found, that one, and what stands behind it
    cut : xs ≡ before_first test xs ++ (x ∷ after_first test xs)
    cut =
        split_at_first test xs x inside
        ∙ ap (λ y. before_first test xs ++ (y ∷ after_first test xs))
        (same_Some (get_or xs (position_or_len test xs) x) x (sym (slice_get-get_or xs (position_or_len test xs) x inside) ∙ sym (find_at test xs) ∙ found))

    shorter : (n : ℕ) → length xs ≤ suc n → length (after_first test xs ++ before_first test xs) ≤ n
    shorter n h =
        let all : length xs ≡ length (before_first test xs) + length (x ∷ after_first test xs) = ap length cut ∙ length-append (before_first test xs) (x ∷ after_first test xs) in
        let rest = length-append (after_first test xs) (before_first test xs) in
        omega (arith, all, rest, h)

    each_of_all : (P : A → Type 0) → P x → AllByRecursion P (after_first test xs ++ before_first test xs) → AllByRecursion P xs
    each_of_all P here rest =
        subst (AllByRecursion P) (sym cut)
        (each-append P (before_first test xs) (x ∷ after_first test xs) (back P (after_first test xs) (before_first test xs) rest) (here, front P (after_first test xs) (before_first test xs) rest))

module _ (archs : List Text) (sources : List UploadIn) (rows : List RowIn) where
  abbrev allowed : Suite → Excuse → Bool
  allowed t = is_allowed_alone archs sources rows t

  abbrev Settled : Outcome → Excuse → Type 0
  Settled o = HasMovedOrMayNot archs sources rows o

  abbrev after_one : Excuse → Outcome → Outcome
  after_one e rest = record { decisions = accepted e ∷ rest.decisions; suite = rest.suite }

  one_more : (e : Excuse) (rest : Outcome) (x : Excuse) → Settled rest x → Settled (after_one e rest) x
  one_more e rest x h = ⊎_elim (λ c. inl (Contains-append_right (accepted e ∷ []) rest.decisions (accepted x) c)) (λ k. inr k) h

  left_at : (n : ℕ) (es : List Excuse) (t : Suite) (m : Option Excuse) → find (allowed t) es ≡ m → length es ≤ suc n
      → ((xs : List Excuse) (u : Suite) → length xs ≤ n → AllByRecursion (Settled (single_moves archs sources rows n xs u)) xs)
      → (let o : Outcome = elim m [
        | None ↦ nothing t
        | Some e ↦ let rest = single_moves archs sources rows n (after_first (allowed t) es ++ before_first (allowed t) es) (moved_alone sources rows t e) in
            record { decisions = accepted e ∷ rest.decisions; suite = rest.suite }
      ] in AllByRecursion (Settled o) es)
  left_at n es t None e h more = each-weaker (λ x. allowed t x ≡ false) (Settled (nothing t)) (λ x k. inr k) es (none_found (allowed t) es e)
  left_at n es t (Some x) e h more =
      let others = after_first (allowed t) es ++ before_first (allowed t) es in
      let rest = single_moves archs sources rows n others (moved_alone sources rows t x) in
      each_of_all (allowed t) es x e (Settled (after_one x rest)) (inl (zero, omega arith, refl))
      (each-weaker (Settled rest) (Settled (after_one x rest)) (one_more x rest) others (more others (moved_alone sources rows t x) (shorter (allowed t) es x e n h)))

  pub none_left : (n : ℕ) (es : List Excuse) (t : Suite) → length es ≤ n → AllByRecursion (Settled (single_moves archs sources rows n es t)) es
  none_left zero [] t h = tt
  none_left zero (e ∷ es) t h = absurd (omega (arith, h))
  none_left (suc n) es t h = left_at n es t (find (allowed t) es) refl h (none_left n)
