-- A list in order becomes with one more element, or without one, what a part of it becomes: the part where its key belongs.
use Rattle.std.specs.Prelude.{Bool, true, false, cond, List, [], ◌∷◌, ◌++◌, map, filter}
use Rattle.std.specs.List.{AllByRecursion}
use Rattle.std.specs.List.Sorted.{IsStrictlySortedBy}
use Rattle.std.specs.Cmp.{IsTotalOrder}
use Rattle.std.specs.declared.cmp.Ordering.{Ordering}
use Rattle.std.specs.declared.cmp.Ordering.TheVariants.{Less, Equal, Greater}
use Rattle.std.specs.Ordering.{is_eq, is_gt}
use Rattle.std.proofs.Common.{◌≡◌, refl, sym, ap, ◌∙◌}
use Rattle.std.proofs.lemmas.Bool.{false≢true}
use Rattle.std.proofs.lemmas.Cmp.{alike_right}
use Rattle.testing_rules_model.specs.WithMessage.{put_first}
use Rattle.testing_rules_model.proofs.KeyOrder.{turned}

is_greater : (r : Ordering) → is_gt r ≡ true → r ≡ Greater
is_greater Less e = absurd (false≢true e)
is_greater Equal e = absurd (false≢true e)
is_greater Greater e = refl

module _ {A K : Type 0} (key : A → K) {cmp : K → K → Ordering} (o : IsTotalOrder cmp) where
  -- all of them below the key, and above it
  abbrev pub AllBelow : K → List A → Type 0
  AllBelow k xs = AllByRecursion (λ x. cmp (key x) k ≡ Less) xs

  abbrev pub AllAbove : K → List A → Type 0
  AllAbove k xs = AllByRecursion (λ x. cmp (key x) k ≡ Greater) xs

  -- parts of a list in order
  pub sorted-back : (xs ys : List A) → IsStrictlySortedBy cmp (map key (xs ++ ys)) → IsStrictlySortedBy cmp (map key ys)
  unfolding IsStrictlySortedBy
  sorted-back [] ys s = s
  sorted-back (x ∷ xs) ys s = sorted-back xs ys s.1

  front_all : (P : K → Type 0) (xs ys : List A) → AllByRecursion P (map key (xs ++ ys)) → AllByRecursion P (map key xs)
  front_all P [] ys a = tt
  front_all P (x ∷ xs) ys a = (a.0, front_all P xs ys a.1)

  pub sorted-front : (xs ys : List A) → IsStrictlySortedBy cmp (map key (xs ++ ys)) → IsStrictlySortedBy cmp (map key xs)
  unfolding IsStrictlySortedBy
  sorted-front [] ys s = tt
  sorted-front (x ∷ xs) ys s = (front_all (λ k. cmp (key x) k ≡ Less) xs ys s.0, sorted-front xs ys s.1)

  -- those before one that isn't above the key
  less_at : (r : Ordering) (i j k : K) → cmp j k ≡ r → cmp i j ≡ Less → is_gt r ≡ false → cmp i k ≡ Less
  less_at Less i j k e h g = o.trans i j k h e
  less_at Equal i j k e h g = sym (alike_right o j k i e) ∙ h
  less_at Greater i j k e h g = absurd (false≢true (sym g))

  key_at : (P : K → Type 0) (xs : List A) (y : A) (zs : List A) → AllByRecursion P (map key (xs ++ y ∷ zs)) → P (key y)
  key_at P [] y zs a = a.0
  key_at P (x ∷ xs) y zs a = key_at P xs y zs a.1

  pub below-front : (k : K) (xs : List A) (y : A) (zs : List A) → IsStrictlySortedBy cmp (map key (xs ++ y ∷ zs)) → is_gt (cmp (key y) k) ≡ false → AllBelow k xs
  unfolding IsStrictlySortedBy
  below-front k [] y zs s e = tt
  below-front k (x ∷ xs) y zs s e = (less_at _ (key x) (key y) k refl (key_at (λ j. cmp (key x) j ≡ Less) xs y zs s.0) e, below-front k xs y zs s.1 e)

  -- those from one on that is above it
  above_all : (k j : K) (zs : List A) → cmp k j ≡ Less → AllByRecursion (λ l. cmp j l ≡ Less) (map key zs) → AllAbove k zs
  above_all k j [] h a = tt
  above_all k j (z ∷ zs) h a = (turned key o k (key z) Less (o.trans k j (key z) h a.0), above_all k j zs h a.1)

  pub above-back : (k : K) (z : A) (zs : List A) → IsStrictlySortedBy cmp (map key (z ∷ zs)) → is_gt (cmp (key z) k) ≡ true → AllAbove k (z ∷ zs)
  unfolding IsStrictlySortedBy
  above-back k z zs s e =
      let greater = is_greater (cmp (key z) k) e in
      (greater, above_all k (key z) zs (turned key o (key z) k Greater greater) s.0)

  -- one element more
  module _ (rank : A → A → Ordering) (x : A) where
    ahead_all : (zs : List A) → AllAbove (key x) zs → put_first key cmp rank x zs ≡ x ∷ zs
    ahead_all [] a = refl
    ahead_all (z ∷ zs) a = rw (put_first, turned key o (key z) (key x) Greater a.0) refl

    ahead_at : (r : Ordering) (y : A) (ys zs : List A) → cmp (key x) (key y) ≡ r → put_first key cmp rank x (ys ++ zs) ≡ put_first key cmp rank x ys ++ zs
        → put_first key cmp rank x (y ∷ ys ++ zs) ≡ put_first key cmp rank x (y ∷ ys) ++ zs
    ahead_at Less y ys zs e h = rw (put_first, e) refl
    ahead_at Equal y ys zs e h = rw (put_first, e) refl
    ahead_at Greater y ys zs e h = rw (put_first, e) (ap (λ t. y ∷ t) h)

    put_ahead : (ys zs : List A) → AllAbove (key x) zs → put_first key cmp rank x (ys ++ zs) ≡ put_first key cmp rank x ys ++ zs
    put_ahead [] zs a = ahead_all zs a
    put_ahead (y ∷ ys) zs a = ahead_at _ y ys zs refl (put_ahead ys zs a)

    put_behind : (xs ys : List A) → AllBelow (key x) xs → put_first key cmp rank x (xs ++ ys) ≡ xs ++ put_first key cmp rank x ys
    put_behind [] ys a = refl
    put_behind (w ∷ xs) ys a = rw (put_first, turned key o (key w) (key x) Less a.0) (ap (λ t. w ∷ t) (put_behind xs ys a.1))

    pub put-part : (xs ys zs : List A) → AllBelow (key x) xs → AllAbove (key x) zs
        → put_first key cmp rank x (xs ++ (ys ++ zs)) ≡ xs ++ (put_first key cmp rank x ys ++ zs)
    put-part xs ys zs low high = put_behind xs (ys ++ zs) low ∙ ap (λ t. xs ++ t) (put_ahead ys zs high)

  -- those that pass a test, where all of other keys do
  module _ (keep : A → Bool) (k : K) (others : (y : A) → is_eq (cmp (key y) k) ≡ false → keep y ≡ true) where
    kept_front : (y : A) (ys zs : List A) → keep y ≡ true → filter keep ys ≡ zs → filter keep (y ∷ ys) ≡ y ∷ zs
    kept_front y ys zs e h = rw e (ap (λ t. y ∷ t) h)

    kept_above : (zs : List A) → AllAbove k zs → filter keep zs ≡ zs
    kept_above [] a = refl
    kept_above (z ∷ zs) a = kept_front z zs zs (others z (ap is_eq a.0)) (kept_above zs a.1)

    kept_at : (b : Bool) (y : A) (ys zs : List A) → filter keep (ys ++ zs) ≡ filter keep ys ++ zs → cond b (y ∷ filter keep (ys ++ zs)) (filter keep (ys ++ zs)) ≡ cond b (y ∷ filter keep ys) (filter keep ys) ++ zs
    kept_at true y ys zs h = ap (λ t. y ∷ t) h
    kept_at false y ys zs h = h

    kept_ahead : (ys zs : List A) → AllAbove k zs → filter keep (ys ++ zs) ≡ filter keep ys ++ zs
    kept_ahead [] zs a = kept_above zs a
    kept_ahead (y ∷ ys) zs a = kept_at (keep y) y ys zs (kept_ahead ys zs a)

    kept_behind : (xs ys : List A) → AllBelow k xs → filter keep (xs ++ ys) ≡ xs ++ filter keep ys
    kept_behind [] ys a = refl
    kept_behind (w ∷ xs) ys a = kept_front w (xs ++ ys) (xs ++ filter keep ys) (others w (ap is_eq a.0)) (kept_behind xs ys a.1)

    pub kept-part : (xs ys zs : List A) → AllBelow k xs → AllAbove k zs → filter keep (xs ++ (ys ++ zs)) ≡ xs ++ (filter keep ys ++ zs)
    kept-part xs ys zs low high = kept_behind xs (ys ++ zs) low ∙ ap (λ t. xs ++ t) (kept_ahead ys zs high)
