-- What a list in order becomes with an element that always comes in, and which one gives way to it.
use Rattle.std.specs.Prelude.{ℕ, zero, suc, ◌<◌, ◌≤◌, List, [], ◌∷◌, length, get_or, set, map}
use Rattle.std.proofs.Common.{◌≡◌, refl, sym, ap, ◌∙◌, subst, arith}
use Rattle.std.proofs.lemmas.List.{map-id}
use Rattle.std.specs.List.{insert}
use Rattle.std.specs.List.Sorted.{IsStrictlySortedBy, IsPartitionPoint, IsNonDecreasingBy}
use Rattle.std.specs.Cmp.{IsTotalOrder}
use Rattle.std.specs.declared.cmp.Ordering.{Ordering}
use Rattle.std.specs.declared.cmp.Ordering.TheVariants.{Less, Equal, Greater}
use Rattle.std.specs.Ordering.{ordering_index}
use Rattle.testing_rules_items.specs.Words.{put_by}
use Rattle.testing_rules_facts.specs.steps.ElementShifts.{put_over}
use Rattle.testing_rules_model.proofs.KeyOrder.{below_at, turned, searchable}

module _ {A K : Type 0} (key : A → K) {cmp : K → K → Ordering} (o : IsTotalOrder cmp) (x : A) where
  abbrev put : List A → List A
  put = put_by key cmp x

  abbrev over : List A → List A
  over = put_over key cmp x

  ahead : (y : A) (ys : List A) → cmp (key x) (key y) ≡ Less → (put (y ∷ ys) ≡ x ∷ y ∷ ys) × (over (y ∷ ys) ≡ [])
  ahead y ys e = (rw (put_by, e) refl, rw (put_over, e) refl)

  level : (y : A) (ys : List A) → cmp (key x) (key y) ≡ Equal → (put (y ∷ ys) ≡ x ∷ ys) × (over (y ∷ ys) ≡ y ∷ [])
  level y ys e = (rw (put_by, e) refl, rw (put_over, e) refl)

  behind : (y : A) (ys zs ws : List A) → cmp (key x) (key y) ≡ Greater → (put ys ≡ zs) × (over ys ≡ ws) → (put (y ∷ ys) ≡ y ∷ zs) × (over (y ∷ ys) ≡ ws)
  behind y ys zs ws e h = (rw (put_by, e) (ap (λ t. y ∷ t) h.0), rw (put_over, e) h.1)

  over_at : (xs : List A) (i : ℕ) (d : A) → IsStrictlySortedBy cmp (map key xs) → i < length xs → cmp (key (get_or xs i d)) (key x) ≡ Equal
      → (put xs ≡ set xs i x) × (over xs ≡ get_or xs i d ∷ [])
  unfolding IsStrictlySortedBy
  over_at [] i d s h e = absurd (omega (arith, h))
  over_at (y ∷ ys) zero d s h e = level y ys (turned key o (key y) (key x) Equal e)
  over_at (y ∷ ys) (suc i) d s h e =
      let low : i < length ys = omega (arith, h) in
      let z = get_or ys i d in
      let greater : cmp (key x) (key y) ≡ Greater = sym (o.congr (key z) (key x) (key y) e) ∙ turned key o (key y) (key z) Less (below_at key o (key y) ys i d s.0 low) in
      behind y ys (set ys i x) (z ∷ []) greater (over_at ys i d s.1 low e)

  before_at : (xs : List A) (i : ℕ) → i ≤ length xs → ((j : ℕ) (d : A) → j < i → cmp (key (get_or xs j d)) (key x) ≡ Less)
      → ((j : ℕ) (d : A) → i ≤ j → j < length xs → cmp (key (get_or xs j d)) (key x) ≡ Greater) → (put xs ≡ insert xs i x) × (over xs ≡ [])
  before_at [] zero h below above = (refl, refl)
  before_at [] (suc i) h below above = absurd (omega (arith, h))
  before_at (y ∷ ys) zero h below above = ahead y ys (turned key o (key y) (key x) Greater (above zero y (omega arith) (omega arith)))
  before_at (y ∷ ys) (suc i) h below above =
      behind y ys (insert ys i x) [] (turned key o (key y) (key x) Less (below zero y (omega arith)))
      (before_at ys i (omega (arith, h)) (λ j d l. below (suc j) d (omega (arith, l))) (λ j d l k. above (suc j) d (omega (arith, l)) (omega (arith, k))))

-- Elements that are in order themselves, and what a search for one more finds.
module _ {A : Type 0} {cmp : A → A → Ordering} (o : IsTotalOrder cmp) (x : A) (xs : List A) (i : ℕ) (s : IsStrictlySortedBy cmp xs) where
  keys : IsStrictlySortedBy cmp (map (λ y. y) xs)
  keys = subst (IsStrictlySortedBy cmp) (sym (map-id xs)) s

  -- it comes over one that ties with it, which gives way
  pub put-tied : (d : A) → i < length xs → cmp (get_or xs i d) x ≡ Equal → (put_by (λ y. y) cmp x xs ≡ set xs i x) × (put_over (λ y. y) cmp x xs ≡ get_or xs i d ∷ [])
  put-tied d h e = over_at (λ y. y) o x xs i d keys h e

  -- where none does it comes before the first above it, and none gives way
  pub put-untied : i ≤ length xs → (IsNonDecreasingBy (λ y. ordering_index (cmp y x)) xs → IsPartitionPoint (λ y. cmp y x ≡ Less) (λ y. cmp y x ≡ Greater) xs i)
      → (put_by (λ y. y) cmp x xs ≡ insert xs i x) × (put_over (λ y. y) cmp x xs ≡ [])
  put-untied h found =
      let parts = found (searchable (λ y. y) o xs keys x) in
      before_at (λ y. y) o x xs i h (λ j d l. parts.0 j d (omega arith) l) parts.1
