-- Lists in the strict order of their keys: what a binary search finds in them.
use Rattle.std.specs.Prelude.{ℕ, zero, suc, ◌+◌, ◌<◌, Bool, true, false, cond, List, [], ◌∷◌, Some, None, length, get_or, map, find}
use Rattle.std.proofs.Common.{◌≡◌, refl, sym, ap, ◌∙◌, subst, arith, inl, inr}
use Rattle.std.specs.List.{AllByRecursion}
use Rattle.std.specs.List.Sorted.{IsStrictlySortedBy, IsSortedBy, IsNonDecreasingBy, IsPartitionPoint}
use Rattle.std.specs.Str.{bytes_eq}
use Rattle.std.specs.Cmp.{IsTotalOrder}
use Rattle.std.specs.declared.cmp.Ordering.{Ordering}
use Rattle.std.specs.declared.cmp.Ordering.TheVariants.{Less, Equal, Greater}
use Rattle.std.specs.Ordering.{is_lt, is_eq, ordering_index, ordering_reverse}
use Rattle.std.proofs.lemmas.Bool.{cases_lt}
use Rattle.std.proofs.lemmas.Map.Text.{is_eq-slice_cmp}
use Rattle.std.proofs.lemmas.List.Sorted.{searchable_from_sorted}
use Rattle.testing_rules_items.specs.Words.{Text, byte_cmp}
use Rattle.testing_rules_model.proofs.Orders.{text_order}
use Rattle.testing_rules_model.proofs.MoreMail.{text_tied}

module _ {X K : Type 0} (key : X → K) {cmp : K → K → Ordering} (o : IsTotalOrder cmp) where
  -- a key that is below all of them is below the one at a place
  pub below_at : (k : K) (xs : List X) (i : ℕ) (d : X) → AllByRecursion (λ j. cmp k j ≡ Less) (map key xs) → i < length xs → cmp k (key (get_or xs i d)) ≡ Less
  below_at k [] i d a h = absurd (omega (arith, h))
  below_at k (x ∷ xs) zero d a h = a.0
  below_at k (x ∷ xs) (suc i) d a h = below_at k xs i d a.1 (omega (arith, h))

  -- the other way round
  pub turned : (j k : K) (r : Ordering) → cmp j k ≡ r → cmp k j ≡ ordering_reverse r
  turned j k r e = o.antisymm k j ∙ ap ordering_reverse e

  neighbours : (xs : List X) (i : ℕ) (d : X) → IsStrictlySortedBy cmp (map key xs) → suc i < length xs → is_lt (cmp (key (get_or xs (suc i) d)) (key (get_or xs i d))) ≡ false
  unfolding IsStrictlySortedBy
  neighbours [] i d s h = absurd (omega (arith, h))
  neighbours (x ∷ xs) zero d s h = ap is_lt (turned (key x) (key (get_or xs zero d)) Less (below_at (key x) xs zero d s.0 (omega (arith, h))))
  neighbours (x ∷ xs) (suc i) d s h = neighbours xs i d s.1 (omega (arith, h))

  sorted_by_test : (xs : List X) → IsStrictlySortedBy cmp (map key xs) → IsSortedBy (λ a b. is_lt (cmp (key a) (key b))) xs
  sorted_by_test xs s i d low high =
      subst (λ j. is_lt (cmp (key (get_or xs j d)) (key (get_or xs i d))) ≡ false) (let e : suc i ≡ i + 1 = omega arith in e) (neighbours xs i d s (omega (arith, high)))

  -- comparisons with a key rise along the list, as a binary search asks
  pub searchable : (xs : List X) → IsStrictlySortedBy cmp (map key xs) → (k : K) → IsNonDecreasingBy (λ x. ordering_index (cmp (key x) k)) xs
  searchable xs s k = searchable_from_sorted o key xs k (sorted_by_test xs s)

-- texts that tie are the same, and no others
text_eq : (a b : Text) (r : Ordering) → byte_cmp a b ≡ r → bytes_eq a b ≡ is_eq r
text_eq a b r e = sym (is_eq-slice_cmp a b) ∙ ap is_eq e

-- The element of a name.

module _ {X : Type 0} (name_of : X → Text) (name : Text) where
  find_here : (b : Bool) (x : X) (xs : List X) → bytes_eq (name_of x) name ≡ b → find (λ y. bytes_eq (name_of y) name) (x ∷ xs) ≡ cond b (Some x) (find (λ y. bytes_eq (name_of y) name) xs)
  find_here true x xs e = rw e refl
  find_here false x xs e = rw e refl

  -- where a search says that it is
  pub find-at : (xs : List X) (i : ℕ) (d : X) → IsStrictlySortedBy byte_cmp (map name_of xs) → i < length xs → byte_cmp (name_of (get_or xs i d)) name ≡ Equal
      → find (λ y. bytes_eq (name_of y) name) xs ≡ Some (get_or xs i d)
  unfolding IsStrictlySortedBy
  find-at [] i d s h e = absurd (omega (arith, h))
  find-at (x ∷ xs) zero d s h e = find_here true x xs (text_eq (name_of x) name Equal e)
  find-at (x ∷ xs) (suc i) d s h e =
      let low : i < length xs = omega (arith, h) in
      let below = below_at name_of text_order (name_of x) xs i d s.0 low in
      let same = text_tied (name_of (get_or xs i d)) name e in
      find_here false x xs (text_eq (name_of x) name Less (sym (ap (byte_cmp (name_of x)) same) ∙ below)) ∙ find-at xs i d s.1 low e

  none_at : (xs : List X) → ((i : ℕ) (d : X) → i < length xs → bytes_eq (name_of (get_or xs i d)) name ≡ false) → find (λ y. bytes_eq (name_of y) name) xs ≡ None
  none_at [] h = refl
  none_at (x ∷ xs) h = find_here false x xs (h zero x (omega arith)) ∙ none_at xs (λ i d l. h (suc i) d (omega (arith, l)))

  -- and there is none where it says where it belongs
  pub find-none : (xs : List X) (i : ℕ) → IsPartitionPoint (λ y. byte_cmp (name_of y) name ≡ Less) (λ y. byte_cmp (name_of y) name ≡ Greater) xs i
      → find (λ y. bytes_eq (name_of y) name) xs ≡ None
  find-none xs i h = none_at xs (λ j d l. elim (cases_lt j i) [
    | inl low ↦ text_eq (name_of (get_or xs j d)) name Less (h.0 j d (omega arith) low)
    | inr high ↦ text_eq (name_of (get_or xs j d)) name Greater (h.1 j d high l)
  ])
