-- What holds of each element of a list.
use Rattle.std.specs.Prelude.{Bool, true, false, cond, List, [], ◌∷◌, ◌++◌, filter, fold}
use Rattle.std.specs.List.{AllByRecursion}
use Rattle.std.specs.declared.cmp.Ordering.{Ordering}
use Rattle.std.specs.declared.cmp.Ordering.TheVariants.{Less, Equal, Greater}
use Rattle.std.proofs.Common.{◌≡◌, refl}
use Rattle.testing_rules_items.specs.Words.{put_by}

module _ {A : Type 0} where
  pub each-weaker : (P Q : A → Type 0) → ((x : A) → P x → Q x) → (xs : List A) → AllByRecursion P xs → AllByRecursion Q xs
  each-weaker P Q f [] h = tt
  each-weaker P Q f (x ∷ xs) h = (f x h.0, each-weaker P Q f xs h.1)

  pub each-both : (P Q : A → Type 0) (xs : List A) → AllByRecursion P xs → AllByRecursion Q xs → AllByRecursion (λ x. P x × Q x) xs
  each-both P Q [] h k = tt
  each-both P Q (x ∷ xs) h k = ((h.0, k.0), each-both P Q xs h.1 k.1)

  pub each-append : (P : A → Type 0) (xs ys : List A) → AllByRecursion P xs → AllByRecursion P ys → AllByRecursion P (xs ++ ys)
  each-append P [] ys h k = k
  each-append P (x ∷ xs) ys h k = (h.0, each-append P xs ys h.1 k)

  each-filter_at : (P : A → Type 0) (test : A → Bool) (x : A) (b : Bool) (xs : List A) → test x ≡ b → (test x ≡ true → P x) → AllByRecursion P (filter test xs)
      → AllByRecursion P (cond b (x ∷ filter test xs) (filter test xs))
  each-filter_at P test x true xs e p h = (p e, h)
  each-filter_at P test x false xs e p h = h

  -- of those that pass a test
  pub each-filter : (P : A → Type 0) (test : A → Bool) (xs : List A) → AllByRecursion (λ x. test x ≡ true → P x) xs → AllByRecursion P (filter test xs)
  each-filter P test [] h = tt
  each-filter P test (x ∷ xs) h = each-filter_at P test x (test x) xs refl h.0 (each-filter P test xs h.1)

  each-all_at : (P : A → Type 0) (test : A → Bool) (x : A) (b : Bool) (xs : List A) → test x ≡ b → (test x ≡ false → P x) → (AllByRecursion P (filter test xs) → AllByRecursion P xs)
      → AllByRecursion P (cond b (x ∷ filter test xs) (filter test xs)) → AllByRecursion P (x ∷ xs)
  each-all_at P test x true xs e p more h = (h.0, more h.1)
  each-all_at P test x false xs e p more h = (p e, more h)

  -- of all, where it holds of those that pass a test and of those that don't
  pub each-all : (P : A → Type 0) (test : A → Bool) → ((x : A) → test x ≡ false → P x) → (xs : List A) → AllByRecursion P (filter test xs) → AllByRecursion P xs
  each-all P test p [] h = tt
  each-all P test p (x ∷ xs) h = each-all_at P test x (test x) xs refl (p x) (each-all P test p xs) h

  pub every : (P : A → Type 0) → ((x : A) → P x) → (xs : List A) → AllByRecursion P xs
  every P p [] = tt
  every P p (x ∷ xs) = (p x, every P p xs)

  module _ {K : Type 0} (P : A → Type 0) (key : A → K) (cmp : K → K → Ordering) where
    each-put_at : (r : Ordering) (x y : A) (ys : List A) → cmp (key x) (key y) ≡ r → P x → AllByRecursion P (y ∷ ys) → AllByRecursion P (put_by key cmp x ys) → AllByRecursion P (put_by key cmp x (y ∷ ys))
    each-put_at Less x y ys e p h more = rw (put_by, e) (p, h)
    each-put_at Equal x y ys e p h more = rw (put_by, e) (p, h.1)
    each-put_at Greater x y ys e p h more = rw (put_by, e) (h.0, more)

    -- of those with one more put in
    pub each-put : (x : A) (ys : List A) → P x → AllByRecursion P ys → AllByRecursion P (put_by key cmp x ys)
    each-put x [] p h = (p, tt)
    each-put x (y ∷ ys) p h = each-put_at _ x y ys refl p h (each-put x ys p h.1)

    -- with several
    pub each-put_all : (xs ys : List A) → AllByRecursion P xs → AllByRecursion P ys → AllByRecursion P (fold (λ zs x. put_by key cmp x zs) ys xs)
    each-put_all [] ys p h = h
    each-put_all (x ∷ xs) ys p h = each-put_all xs (put_by key cmp x ys) p.1 (each-put x ys p.0 h)
