-- What a list in the strict order of its keys becomes with one more element put in, where a search by halves says that it belongs.
use Rattle.std.specs.Prelude.{ℕ, zero, suc, ◌<◌, ◌≤◌, List, [], ◌∷◌, length, get_or, set, map, Result, Ok, Err}
use Rattle.std.specs.List.{insert}
use Rattle.std.specs.List.Sorted.{IsStrictlySortedBy, IsPartitionPoint, IsBinarySearchResult, IsSearchInRange}
use Rattle.std.specs.Cmp.{IsTotalOrder}
use Rattle.std.specs.declared.cmp.Ordering.{Ordering}
use Rattle.std.specs.declared.cmp.Ordering.TheVariants.{Less, Equal, Greater}
use Rattle.std.proofs.Common.{◌≡◌, refl, sym, ap, ◌∙◌, arith}
use Rattle.testing_rules_model.specs.steps.Places.{IsPlaceFor}
use Rattle.testing_rules_items.specs.Words.{put_by}
use Rattle.testing_rules_model.proofs.KeyOrder.{below_at, turned, searchable}

module _ {A K : Type 0} (key : A → K) {cmp : K → K → Ordering} (o : IsTotalOrder cmp) (x : A) where
  behind : (y : A) (ys : List A) → cmp (key x) (key y) ≡ Greater → put_by key cmp x (y ∷ ys) ≡ y ∷ put_by key cmp x ys
  behind y ys e = rw (put_by, e) refl

  ahead : (y : A) (ys : List A) → cmp (key x) (key y) ≡ Less → put_by key cmp x (y ∷ ys) ≡ x ∷ y ∷ ys
  ahead y ys e = rw (put_by, e) refl

  level : (y : A) (ys : List A) → cmp (key x) (key y) ≡ Equal → put_by key cmp x (y ∷ ys) ≡ x ∷ ys
  level y ys e = rw (put_by, e) refl

  put_over : (xs : List A) (i : ℕ) (d : A) → IsStrictlySortedBy cmp (map key xs) → i < length xs → cmp (key (get_or xs i d)) (key x) ≡ Equal
      → put_by key cmp x xs ≡ set xs i x
  unfolding IsStrictlySortedBy
  put_over [] i d s h e = absurd (omega (arith, h))
  put_over (y ∷ ys) zero d s h e = level y ys (turned key o (key y) (key x) Equal e)
  put_over (y ∷ ys) (suc i) d s h e =
      let low : i < length ys = omega (arith, h) in
      let z = get_or ys i d in
      let greater : cmp (key x) (key y) ≡ Greater = sym (o.congr (key z) (key x) (key y) e) ∙ turned key o (key y) (key z) Less (below_at key o (key y) ys i d s.0 low) in
      behind y ys greater ∙ ap (λ t. y ∷ t) (put_over ys i d s.1 low e)

  put_before : (xs : List A) (i : ℕ) → i ≤ length xs → ((j : ℕ) (d : A) → j < i → cmp (key (get_or xs j d)) (key x) ≡ Less)
      → ((j : ℕ) (d : A) → i ≤ j → j < length xs → cmp (key (get_or xs j d)) (key x) ≡ Greater) → put_by key cmp x xs ≡ insert xs i x
  put_before [] zero h below above = refl
  put_before [] (suc i) h below above = absurd (omega (arith, h))
  put_before (y ∷ ys) zero h below above = ahead y ys (turned key o (key y) (key x) Greater (above zero y (omega arith) (omega arith)))
  put_before (y ∷ ys) (suc i) h below above =
      behind y ys (turned key o (key y) (key x) Less (below zero y (omega arith)))
      ∙ ap (λ t. y ∷ t)
      (put_before ys i (omega (arith, h)) (λ j d l. below (suc j) d (omega (arith, l))) (λ j d l k. above (suc j) d (omega (arith, l)) (omega (arith, k))))

  -- it comes over the one of its key, or before the first above it
  pub place-for : (xs : List A) (r : Result ℕ ℕ) → IsStrictlySortedBy cmp (map key xs) → IsSearchInRange r (length xs)
      → IsBinarySearchResult (λ y. cmp (key y) (key x)) xs r → IsPlaceFor xs x (put_by key cmp x xs) r
  place-for xs (Ok i) s b f = (b, put_over xs i x s b (f x))
  place-for xs (Err i) s b f =
      let p : IsPartitionPoint (λ y. cmp (key y) (key x) ≡ Less) (λ y. cmp (key y) (key x) ≡ Greater) xs i = f (searchable key o xs s (key x)) in
      (b, put_before xs i b (λ j d l. p.0 j d (omega (arith, b, l)) l) p.1)
