-- The elements of a list by key with one more, where elements whose keys tie are one.
use Rattle.std.specs.Prelude.{Bool, true, false, List, [], ◌∷◌, cond, Contains}
use Rattle.std.proofs.Common.{◌≡◌, refl, sym, subst, inl, inr, ◌⊎◌}
use Rattle.std.specs.declared.cmp.Ordering.{Ordering}
use Rattle.std.specs.declared.cmp.Ordering.TheVariants.{Less, Equal, Greater}
use Rattle.std.specs.Ordering.{is_lt}
use Rattle.std.specs.Cmp.{IsTotalOrder}
use Rattle.testing_rules_model.specs.WithMessage.{put_first}
use Rattle.testing_rules_items.proofs.Members.{none_among, head_of, tail_of}
use Rattle.testing_rules_model.proofs.Sets.{first_or_rest, at_front}

module _ {A K : Type 0} (key : A → K) {cmp : K → K → Ordering} (o : IsTotalOrder cmp) (rank : A → A → Ordering) where
  cond_from : (b : Bool) (x y z : A) (ys : List A) → Contains (cond b y x ∷ ys) z → (x ≡ z) ⊎ Contains (y ∷ ys) z
  cond_from true x y z ys c = inr c
  cond_from false x y z ys c = elim (first_or_rest x ys z c) [ inl e ↦ inl e | inr among ↦ inr (tail_of y ys z among) ]

  first_from_at : (r : Ordering) (x y z : A) (ys : List A) → cmp (key x) (key y) ≡ r → (Contains (put_first key cmp rank x ys) z → (x ≡ z) ⊎ Contains ys z)
      → Contains (put_first key cmp rank x (y ∷ ys)) z → (x ≡ z) ⊎ Contains (y ∷ ys) z
  first_from_at Less x y z ys e p c = let d : Contains (x ∷ y ∷ ys) z = rw (put_first, e) at c in first_or_rest x (y ∷ ys) z d
  first_from_at Equal x y z ys e p c = let d : Contains (cond (is_lt (rank y x)) y x ∷ ys) z = rw (put_first, e) at c in cond_from (is_lt (rank y x)) x y z ys d
  first_from_at Greater x y z ys e p c =
      let d : Contains (y ∷ put_first key cmp rank x ys) z = rw (put_first, e) at c in
      elim (first_or_rest y (put_first key cmp rank x ys) z d) [
        | inl same ↦ inr (at_front y z ys same)
        | inr among ↦ elim (p among) [ inl own ↦ inl own | inr more ↦ inr (tail_of y ys z more) ]
      ]

  pub first_from : (x z : A) (ys : List A) → Contains (put_first key cmp rank x ys) z → (x ≡ z) ⊎ Contains ys z
  first_from x z [] c = first_or_rest x [] z c
  first_from x z (y ∷ ys) c = first_from_at _ x y z ys refl (first_from x z ys) c

  cond_own : (b : Bool) (x y : A) (ys : List A) → x ≡ y → Contains (cond b y x ∷ ys) x
  cond_own true x y ys e = at_front y x ys (sym e)
  cond_own false x y ys e = head_of x ys

  first_own_at : (r : Ordering) (x y : A) (ys : List A) → cmp (key x) (key y) ≡ r → (cmp (key x) (key y) ≡ Equal → x ≡ y) → Contains (put_first key cmp rank x ys) x
      → Contains (put_first key cmp rank x (y ∷ ys)) x
  first_own_at Less x y ys e t p = rw (put_first, e) (head_of x (y ∷ ys))
  first_own_at Equal x y ys e t p = rw (put_first, e) (cond_own (is_lt (rank y x)) x y ys (t e))
  first_own_at Greater x y ys e t p = rw (put_first, e) (tail_of y (put_first key cmp rank x ys) x p)

  pub first_own : (x : A) (ys : List A) → ((y : A) → Contains ys y → cmp (key x) (key y) ≡ Equal → x ≡ y) → Contains (put_first key cmp rank x ys) x
  first_own x [] t = head_of x []
  first_own x (y ∷ ys) t = first_own_at _ x y ys refl (t y (head_of y ys)) (first_own x ys (λ z c. t z (tail_of y ys z c)))

  cond_others : (b : Bool) (x y z : A) (ys : List A) → x ≡ y → Contains (y ∷ ys) z → Contains (cond b y x ∷ ys) z
  cond_others true x y z ys e c = c
  cond_others false x y z ys e c = subst (λ w. Contains (w ∷ ys) z) (sym e) c

  first_others_at : (r : Ordering) (x y z : A) (ys : List A) → cmp (key x) (key y) ≡ r → (cmp (key x) (key y) ≡ Equal → x ≡ y)
      → (Contains ys z → Contains (put_first key cmp rank x ys) z) → Contains (y ∷ ys) z → Contains (put_first key cmp rank x (y ∷ ys)) z
  first_others_at Less x y z ys e t p c = rw (put_first, e) (tail_of x (y ∷ ys) z c)
  first_others_at Equal x y z ys e t p c = rw (put_first, e) (cond_others (is_lt (rank y x)) x y z ys (t e) c)
  first_others_at Greater x y z ys e t p c =
      rw (put_first, e) (elim (first_or_rest y ys z c) [ inl same ↦ at_front y z (put_first key cmp rank x ys) same | inr among ↦ tail_of y (put_first key cmp rank x ys) z (p among) ])

  pub first_others : (x z : A) (ys : List A) → ((y : A) → Contains ys y → cmp (key x) (key y) ≡ Equal → x ≡ y) → Contains ys z → Contains (put_first key cmp rank x ys) z
  first_others x z [] t c = none_among z c
  first_others x z (y ∷ ys) t c = first_others_at _ x y z ys refl (t y (head_of y ys)) (first_others x z ys (λ w d. t w (tail_of y ys w d))) c
