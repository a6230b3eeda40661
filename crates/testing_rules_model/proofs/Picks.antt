-- What is chosen for each key, with one more element.
use Rattle.std.specs.Prelude.{Bool, true, false, ◌||◌, List, [], ◌∷◌, Option, Some, None, ⊤}
use Rattle.std.proofs.Common.{◌≡◌, refl, sym, ap, ◌∙◌, subst}
use Rattle.std.specs.List.{AllByRecursion, filter_map, cons_option, list_any}
use Rattle.std.specs.declared.cmp.Ordering.{Ordering}
use Rattle.std.specs.declared.cmp.Ordering.TheVariants.{Less, Equal, Greater}
use Rattle.std.specs.Ordering.{is_eq}
use Rattle.std.specs.Cmp.{IsTotalOrder}
use Rattle.testing_rules_items.specs.Words.{lesser, put_by, sorted_by}
use Rattle.testing_rules_model.specs.WithMessage.{put_first}

module _ {K : Type 0} {cmp : K → K → Ordering} (o : IsTotalOrder cmp) where
  -- each key is below those after it
  abbrev pub AllAbove : K → List K → Type 0
  AllAbove k ks = AllByRecursion (λ j. cmp k j ≡ Less) ks

  abbrev pub Rises : List K → Type 0
  Rises [] = ⊤
  Rises (k ∷ ks) = AllAbove k ks × Rises ks

  abbrev pub has_key : K → List K → Bool
  has_key k ks = list_any (λ j. is_eq (cmp k j)) ks

  above-trans : (j k : K) (ks : List K) → cmp j k ≡ Less → AllAbove k ks → AllAbove j ks
  above-trans j k [] h a = tt
  above-trans j k (i ∷ ks) h a = (o.trans j k i h a.0, above-trans j k ks h a.1)

  all_above-put_at : (r : Ordering) (j x y : K) (ys zs : List K) → cmp x y ≡ r → zs ≡ put_by (λ k. k) cmp x ys → cmp j x ≡ Less → AllAbove j (y ∷ ys) → AllAbove j zs → AllAbove j (put_by (λ k. k) cmp x (y ∷ ys))
  all_above-put_at Less j x y ys zs e z h a p = rw (put_by, e) (h, a)
  all_above-put_at Equal j x y ys zs e z h a p = rw (put_by, e) (h, a.1)
  all_above-put_at Greater j x y ys zs e z h a p = rw (put_by, e, sym z) (a.0, p)

  all_above-put : (j x : K) (ys : List K) → cmp j x ≡ Less → AllAbove j ys → AllAbove j (put_by (λ k. k) cmp x ys)
  all_above-put j x [] h a = (h, tt)
  all_above-put j x (y ∷ ys) h a = all_above-put_at _ j x y ys _ refl refl h a (all_above-put j x ys h a.1)

  -- a key is put where the list still rises
  greater_back : (x y : K) → cmp x y ≡ Greater → cmp y x ≡ Less
  greater_back x y e = o.antisymm y x ∙ rw e refl

  equal-above : (x y : K) (ys : List K) → cmp x y ≡ Equal → AllAbove y ys → AllAbove x ys
  equal-above x y [] e a = tt
  equal-above x y (z ∷ ys) e a = (o.congr x y z e ∙ a.0, equal-above x y ys e a.1)

  rises-put_at : (r : Ordering) (x y : K) (ys zs : List K) → cmp x y ≡ r → zs ≡ put_by (λ k. k) cmp x ys → Rises (y ∷ ys) → Rises zs → Rises (put_by (λ k. k) cmp x (y ∷ ys))
  rises-put_at Less x y ys zs e z h p = rw (put_by, e) ((e, above-trans x y ys e h.0), h)
  rises-put_at Equal x y ys zs e z h p = rw (put_by, e) (equal-above x y ys e h.0, h.1)
  rises-put_at Greater x y ys zs e z h p = rw (put_by, e, sym z) (subst (AllAbove y) (sym z) (all_above-put y x ys (greater_back x y e) h.0), p)

  pub rises-put : (x : K) (ys : List K) → Rises ys → Rises (put_by (λ k. k) cmp x ys)
  rises-put x [] h = (tt, tt)
  rises-put x (y ∷ ys) h = rises-put_at _ x y ys _ refl refl h (rises-put x ys h.1)

  pub rises-sorted : (xs : List K) → Rises (sorted_by (λ k. k) cmp xs)
  rises-sorted [] = tt
  rises-sorted (x ∷ xs) = rises-put x (sorted_by (λ k. k) cmp xs) (rises-sorted xs)

  has_key-after : (x y : K) (ys : List K) → is_eq (cmp x y) ≡ false → has_key x ys ≡ false → has_key x (y ∷ ys) ≡ false
  has_key-after x y ys e h = rw (e, h) refl

  all_above-absent : (x : K) (ys : List K) → AllAbove x ys → has_key x ys ≡ false
  all_above-absent x [] a = refl
  all_above-absent x (y ∷ ys) a = has_key-after x y ys (ap is_eq a.0) (all_above-absent x ys a.1)

  -- a key in a list with one more
  twice : (a b : Bool) → (a || b) ≡ (a || (a || b))
  twice true b = refl
  twice false b = refl

  swapped : (a b c : Bool) → (a || (b || c)) ≡ (b || (a || c))
  swapped true true c = refl
  swapped true false c = refl
  swapped false true c = refl
  swapped false false c = refl

  module _ (tied : (j k : K) → cmp j k ≡ Equal → j ≡ k) where
    has_key-put_at : (r : Ordering) (k x y : K) (ys : List K) → cmp x y ≡ r → has_key k (put_by (λ j. j) cmp x ys) ≡ (is_eq (cmp k x) || has_key k ys)
        → has_key k (put_by (λ j. j) cmp x (y ∷ ys)) ≡ (is_eq (cmp k x) || has_key k (y ∷ ys))
    has_key-put_at Less k x y ys e p = rw (put_by, e) refl
    has_key-put_at Equal k x y ys e p = rw (put_by, e, sym (tied x y e)) (twice (is_eq (cmp k x)) (has_key k ys))
    has_key-put_at Greater k x y ys e p = rw (put_by, e) (ap (λ b. is_eq (cmp k y) || b) p ∙ swapped (is_eq (cmp k y)) (is_eq (cmp k x)) (has_key k ys))

    pub has_key-put : (k x : K) (ys : List K) → has_key k (put_by (λ j. j) cmp x ys) ≡ (is_eq (cmp k x) || has_key k ys)
    has_key-put k x [] = refl
    has_key-put k x (y ∷ ys) = has_key-put_at _ k x y ys refl (has_key-put k x ys)

    -- a key for which nothing is chosen changes nothing
    module _ {A : Type 0} (f : K → Option A) where
      put-skip_at : (r : Ordering) (x y : K) (ys : List K) → cmp x y ≡ r → Rises (y ∷ ys) → (has_key x (y ∷ ys) ≡ false → f x ≡ None)
          → ((has_key x ys ≡ false → f x ≡ None) → filter_map f (put_by (λ j. j) cmp x ys) ≡ filter_map f ys)
          → filter_map f (put_by (λ j. j) cmp x (y ∷ ys)) ≡ filter_map f (y ∷ ys)
      put-skip_at Less x y ys e h absent more = rw (put_by, e, absent (all_above-absent x (y ∷ ys) (e, above-trans x y ys e h.0))) refl
      put-skip_at Equal x y ys e h absent more = rw (put_by, e, tied x y e) refl
      put-skip_at Greater x y ys e h absent more = rw (put_by, e) (ap (cons_option (f y)) (more (λ n. absent (has_key-after x y ys (ap is_eq e) n))))

      pub put-skip : (x : K) (ys : List K) → Rises ys → (has_key x ys ≡ false → f x ≡ None) → filter_map f (put_by (λ j. j) cmp x ys) ≡ filter_map f ys
      put-skip x [] h absent = rw (absent refl) refl
      put-skip x (y ∷ ys) h absent = put-skip_at _ x y ys refl h absent (put-skip x ys h.1)

  -- f gives what is chosen for a key before, and g with one more element m, whose key is x
  module _ {A : Type 0} (key : A → K) (rank : A → A → Ordering) (tied : (j k : K) → cmp j k ≡ Equal → j ≡ k)
      (f g : K → Option A) (m : A) (keyed : (k : K) (u : A) → f k ≡ Some u → key u ≡ k)
      (at : g (key m) ≡ lesser rank m (f (key m))) (off : (k : K) → is_eq (cmp (key m) k) ≡ false → g k ≡ f k) where
    cons_front : (v : Option A) (k : K) (ks : List K) → f k ≡ v → cmp (key m) k ≡ Less
        → put_first key cmp rank m (filter_map f ks) ≡ m ∷ filter_map f ks
        → put_first key cmp rank m (filter_map f (k ∷ ks)) ≡ m ∷ filter_map f (k ∷ ks)
    cons_front None k ks e h p = rw e p
    cons_front (Some u) k ks e h p = rw (e, put_first, keyed k u e, h) refl

    front : (ks : List K) → AllAbove (key m) ks → put_first key cmp rank m (filter_map f ks) ≡ m ∷ filter_map f ks
    front [] a = refl
    front (k ∷ ks) a = cons_front _ k ks refl a.0 (front ks a.1)

    same_above : (ks : List K) → AllAbove (key m) ks → filter_map g ks ≡ filter_map f ks
    same_above [] a = refl
    same_above (k ∷ ks) a = rw (off k (ap is_eq a.0), same_above ks a.1) refl

    at_equal : (v : Option A) (k : K) (ks : List K) → f k ≡ v → key m ≡ k → cmp (key m) k ≡ Equal → AllAbove (key m) ks
        → filter_map g (key m ∷ ks) ≡ put_first key cmp rank m (filter_map f (k ∷ ks))
    at_equal None k ks e same t a =
        let none : f (key m) ≡ None = ap f same ∙ e in
        rw (e, at, none, same_above ks a) (sym (front ks a))
    at_equal (Some u) k ks e same t a =
        let some : f (key m) ≡ Some u = ap f same ∙ e in
        rw (e, at, some, same_above ks a, put_first, keyed k u e, t) refl

    at_greater : (v : Option A) (k : K) (ks : List K) → f k ≡ v → cmp (key m) k ≡ Greater
        → filter_map g (put_by (λ j. j) cmp (key m) ks) ≡ put_first key cmp rank m (filter_map f ks)
        → filter_map g (k ∷ put_by (λ j. j) cmp (key m) ks) ≡ put_first key cmp rank m (filter_map f (k ∷ ks))
    at_greater None k ks e h p = rw (off k (ap is_eq h), e) p
    at_greater (Some u) k ks e h p = rw (off k (ap is_eq h), e, put_first, keyed k u e, h, p) refl

    at_less : (k : K) (ks : List K) → f (key m) ≡ None → cmp (key m) k ≡ Less → AllAbove (key m) (k ∷ ks)
        → filter_map g (key m ∷ k ∷ ks) ≡ put_first key cmp rank m (filter_map f (k ∷ ks))
    at_less k ks e h a = rw (at, e, same_above (k ∷ ks) a) (sym (front (k ∷ ks) a))

    at_put : (r : Ordering) (k : K) (ks : List K) → cmp (key m) k ≡ r → Rises (k ∷ ks) → (has_key (key m) (k ∷ ks) ≡ false → f (key m) ≡ None)
        → ((has_key (key m) ks ≡ false → f (key m) ≡ None) → filter_map g (put_by (λ j. j) cmp (key m) ks) ≡ put_first key cmp rank m (filter_map f ks))
        → filter_map g (put_by (λ j. j) cmp (key m) (k ∷ ks)) ≡ put_first key cmp rank m (filter_map f (k ∷ ks))
    at_put Less k ks e h absent more =
        let a : AllAbove (key m) (k ∷ ks) = (e, above-trans (key m) k ks e h.0) in
        rw (put_by, e) (at_less k ks (absent (all_above-absent (key m) (k ∷ ks) a)) e a)
    at_put Equal k ks e h absent more = rw (put_by, e) (at_equal _ k ks refl (tied (key m) k e) e (equal-above (key m) k ks e h.0))
    at_put Greater k ks e h absent more = rw (put_by, e) (at_greater _ k ks refl e (more (λ n. absent (has_key-after (key m) k ks (ap is_eq e) n))))

    -- what is chosen with one more element: put where it is the first of its key
    pub put_picked : (ks : List K) → Rises ks → (has_key (key m) ks ≡ false → f (key m) ≡ None)
        → filter_map g (put_by (λ j. j) cmp (key m) ks) ≡ put_first key cmp rank m (filter_map f ks)
    put_picked [] h absent = rw (at, absent refl) refl
    put_picked (k ∷ ks) h absent = at_put _ k ks refl h absent (put_picked ks h.1)
