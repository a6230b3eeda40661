-- What a search by halves finds in a list in the strict order of its keys.
use Rattle.std.specs.Prelude.{ℕ, zero, suc, ◌<◌, Bool, true, false, cond, List, [], ◌∷◌, Some, None, length, get_or, map, find}
use Rattle.std.proofs.Common.{◌≡◌, refl, sym, ap, ◌∙◌, arith, inl, inr}
use Rattle.std.specs.List.Sorted.{IsStrictlySortedBy, IsPartitionPoint}
use Rattle.std.specs.Cmp.{IsTotalOrder}
use Rattle.std.specs.declared.cmp.Ordering.{Ordering}
use Rattle.std.specs.declared.cmp.Ordering.TheVariants.{Less, Equal, Greater}
use Rattle.std.specs.Ordering.{is_eq}
use Rattle.std.proofs.lemmas.Bool.{cases_lt}
use Rattle.testing_rules_model.proofs.KeyOrder.{below_at, turned}

module _ {X K : Type 0} (key : X → K) {cmp : K → K → Ordering} (o : IsTotalOrder cmp) (k : K) where
  find_here : (b : Bool) (x : X) (xs : List X) → is_eq (cmp (key x) k) ≡ b → find (λ y. is_eq (cmp (key y) k)) (x ∷ xs) ≡ cond b (Some x) (find (λ y. is_eq (cmp (key y) k)) xs)
  find_here true x xs e = rw e refl
  find_here false x xs e = rw e refl

  -- a key that is below one that ties is below
  below_tied : (j l : K) → cmp j l ≡ Less → cmp l k ≡ Equal → cmp j k ≡ Less
  below_tied j l low e = turned key o k j Greater (sym (o.congr l k j e) ∙ turned key o j l Less low)

  -- the element of a key is where the search says
  pub find-tied : (xs : List X) (i : ℕ) (d : X) → IsStrictlySortedBy cmp (map key xs) → i < length xs → cmp (key (get_or xs i d)) k ≡ Equal → find (λ y. is_eq (cmp (key y) k)) xs ≡ Some (get_or xs i d)
  unfolding IsStrictlySortedBy
  find-tied [] i d s h e = absurd (omega (arith, h))
  find-tied (x ∷ xs) zero d s h e = find_here true x xs (ap is_eq e)
  find-tied (x ∷ xs) (suc i) d s h e =
      let low : i < length xs = omega (arith, h) in
      find_here false x xs (ap is_eq (below_tied (key x) (key (get_or xs i d)) (below_at key o (key x) xs i d s.0 low) e)) ∙ find-tied xs i d s.1 low e

  none_at : (xs : List X) → ((i : ℕ) (d : X) → i < length xs → is_eq (cmp (key (get_or xs i d)) k) ≡ false) → find (λ y. is_eq (cmp (key y) k)) xs ≡ None
  none_at [] h = refl
  none_at (x ∷ xs) h = find_here false x xs (h zero x (omega arith)) ∙ none_at xs (λ i d l. h (suc i) d (omega (arith, l)))

  -- and there is none where the search says where it belongs
  pub find-untied : (xs : List X) (i : ℕ) → IsPartitionPoint (λ y. cmp (key y) k ≡ Less) (λ y. cmp (key y) k ≡ Greater) xs i → find (λ y. is_eq (cmp (key y) k)) xs ≡ None
  find-untied xs i h = none_at xs (λ j d l. elim (cases_lt j i) [
    | inl low ↦ ap is_eq (h.0 j d (omega arith) low)
    | inr high ↦ ap is_eq (h.1 j d high l)
  ])
