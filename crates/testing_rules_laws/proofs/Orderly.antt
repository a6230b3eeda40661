-- Lists in the strict order of their keys, made of their own elements in any order.
use Rattle.std.specs.Prelude.{List, [], ◌∷◌, map, Contains}
use Rattle.std.proofs.Common.{◌≡◌, refl, sym, ap, ◌∙◌, subst, inl, inr, ◌⊎◌}
use Rattle.std.specs.List.{AllByRecursion}
use Rattle.std.specs.List.Sorted.{IsStrictlySortedBy}
use Rattle.std.specs.declared.cmp.Ordering.{Ordering}
use Rattle.std.specs.declared.cmp.Ordering.TheVariants.{Less, Equal, Greater}
use Rattle.std.specs.Cmp.{IsTotalOrder}
use Rattle.std.proofs.lemmas.Cmp.{tied_itself}
use Rattle.testing_rules_items.specs.Words.{put_by}
use Rattle.testing_rules_model.specs.SameMessages.{SameElements}
use Rattle.testing_rules_items.proofs.Members.{none_among, head_of, tail_of}
use Rattle.testing_rules_model.proofs.Sets.{first_or_rest, at_front}

-- elements put into a list one after the other
abbrev pub put_all : {A : Type 0} → (A → List A → List A) → List A → List A → List A
put_all put [] ys = ys
put_all put (x ∷ xs) ys = put_all put xs (put x ys)

module _ {A K : Type 0} (key : A → K) {cmp : K → K → Ordering} (o : IsTotalOrder cmp) where
  abbrev pub IsInOrder : List A → Type 0
  IsInOrder xs = IsStrictlySortedBy cmp (map key xs)

  -- two elements whose keys tie are one
  abbrev pub HasOneOfKey : List A → Type 0
  HasOneOfKey xs = (x y : A) → Contains xs x → Contains xs y → cmp (key x) (key y) ≡ Equal → x ≡ y

  pub above_has : (k : K) (xs : List A) (z : A) → AllByRecursion (λ j. cmp k j ≡ Less) (map key xs) → Contains xs z → cmp k (key z) ≡ Less
  above_has k [] z a c = none_among z c
  above_has k (x ∷ xs) z a c = elim (first_or_rest x xs z c) [
    | inl e ↦ ap (λ w. cmp k (key w)) (sym e) ∙ a.0
    | inr among ↦ above_has k xs z a.1 among
  ]

  less_not_equal : {P : Type 0} (j k : K) → cmp j k ≡ Less → cmp j k ≡ Equal → P
  less_not_equal j k l e = let no : Less ≡ Equal = sym l ∙ e in absurd (let never : ⊥ = cc in never)

  pub not_itself : {P : Type 0} (k : K) → cmp k k ≡ Less → P
  not_itself k l = less_not_equal k k l (tied_itself o k)

  turned_equal : (j k : K) → cmp j k ≡ Equal → cmp k j ≡ Equal
  turned_equal j k e = o.antisymm k j ∙ rw e refl

  pub one_of_key : (xs : List A) → IsInOrder xs → HasOneOfKey xs
  unfolding IsStrictlySortedBy
  one_of_key [] s x y c d e = none_among x c
  one_of_key (z ∷ xs) s x y c d e = elim (first_or_rest z xs x c) [
    | inl zx ↦ elim (first_or_rest z xs y d) [
      | inl zy ↦ sym zx ∙ zy
      | inr low ↦ less_not_equal (key x) (key y) (ap (λ w. cmp (key w) (key y)) (sym zx) ∙ above_has (key z) xs y s.0 low) e
    ]
    | inr high ↦ elim (first_or_rest z xs y d) [
      | inl zy ↦ less_not_equal (key y) (key x) (ap (λ w. cmp (key w) (key x)) (sym zy) ∙ above_has (key z) xs x s.0 high) (turned_equal (key x) (key y) e)
      | inr low ↦ one_of_key xs s.1 x y high low e
    ]
  ]

  heads : (x y : A) (xs ys : List A) → AllByRecursion (λ j. cmp (key x) j ≡ Less) (map key xs) → AllByRecursion (λ j. cmp (key y) j ≡ Less) (map key ys)
      → SameElements (x ∷ xs) (y ∷ ys) → x ≡ y
  heads x y xs ys r q same = elim (first_or_rest y ys x (same.0 x (head_of x xs))) [
    | inl e ↦ sym e
    | inr low ↦ elim (first_or_rest x xs y (same.1 y (head_of y ys))) [
      | inl e ↦ e
      | inr high ↦ not_itself (key x) (o.trans (key x) (key y) (key x) (above_has (key x) xs y r high) (above_has (key y) ys x q low))
    ]
  ]

  rest : (x y : A) (xs ys : List A) → x ≡ y → AllByRecursion (λ j. cmp (key x) j ≡ Less) (map key xs) → ((z : A) → Contains (x ∷ xs) z → Contains (y ∷ ys) z) → (z : A) → Contains xs z → Contains ys z
  rest x y xs ys e r same z c = elim (first_or_rest y ys z (same z (tail_of x xs z c))) [
    | inl own ↦ not_itself (key x) (ap (λ w. cmp (key x) (key w)) (e ∙ own) ∙ above_has (key x) xs z r c)
    | inr among ↦ among
  ]

  -- two lists in order that have the same elements are one
  pub in_order_once : (xs ys : List A) → IsInOrder xs → IsInOrder ys → SameElements xs ys → xs ≡ ys
  unfolding IsStrictlySortedBy
  in_order_once [] [] r q same = refl
  in_order_once [] (y ∷ ys) r q same = none_among y (same.1 y (head_of y ys))
  in_order_once (x ∷ xs) [] r q same = none_among x (same.0 x (head_of x xs))
  in_order_once (x ∷ xs) (y ∷ ys) r q same =
      let e = heads x y xs ys r.0 q.0 same in
      let tails = in_order_once xs ys r.1 q.1 (rest x y xs ys e r.0 same.0, rest y x ys xs (sym e) q.0 same.1) in
      ap (λ z. z ∷ xs) e ∙ ap (λ zs. y ∷ zs) tails

  -- A way to put an element into a list: the list stays in order and has the element and those it had, where elements whose keys tie are one.
  pub record Puts (put : A → List A → List A) : Type 0 where
    pub order : (x : A) (ys : List A) → IsInOrder ys → IsInOrder (put x ys)
    pub from : (x z : A) (ys : List A) → Contains (put x ys) z → (x ≡ z) ⊎ Contains ys z
    pub own : (x : A) (ys : List A) → ((y : A) → Contains ys y → cmp (key x) (key y) ≡ Equal → x ≡ y) → Contains (put x ys) x
    pub others : (x z : A) (ys : List A) → ((y : A) → Contains ys y → cmp (key x) (key y) ≡ Equal → x ≡ y) → Contains ys z → Contains (put x ys) z

  module _ (put : A → List A → List A) (puts : Puts put) where
    all_order : (xs ys : List A) → IsInOrder ys → IsInOrder (put_all put xs ys)
    all_order [] ys h = h
    all_order (x ∷ xs) ys h = all_order xs (put x ys) (puts.order x ys h)

    all_from : (xs ys : List A) (z : A) → Contains (put_all put xs ys) z → Contains xs z ⊎ Contains ys z
    all_from [] ys z c = inr c
    all_from (x ∷ xs) ys z c = elim (all_from xs (put x ys) z c) [
      | inl among ↦ inl (tail_of x xs z among)
      | inr new ↦ elim (puts.from x z ys new) [ inl e ↦ inl (at_front x z xs e) | inr old ↦ inr old ]
    ]

    module _ (zs : List A) (one : HasOneOfKey zs) where
      within_put : (x : A) (ys : List A) → Contains zs x → ((y : A) → Contains ys y → Contains zs y) → (y : A) → Contains (put x ys) y → Contains zs y
      within_put x ys cx w y c = elim (puts.from x y ys c) [ inl e ↦ subst (Contains zs) e cx | inr old ↦ w y old ]

      all_keeps : (xs ys : List A) → ((x : A) → Contains xs x → Contains zs x) → ((y : A) → Contains ys y → Contains zs y) → (z : A) → Contains ys z → Contains (put_all put xs ys) z
      all_keeps [] ys v w z c = c
      all_keeps (x ∷ xs) ys v w z c =
          let cx = v x (head_of x xs) in
          all_keeps xs (put x ys) (λ u d. v u (tail_of x xs u d)) (within_put x ys cx w) z (puts.others x z ys (λ y d e. one x y cx (w y d) e) c)

      all_has : (xs ys : List A) → ((x : A) → Contains xs x → Contains zs x) → ((y : A) → Contains ys y → Contains zs y) → (z : A) → Contains xs z → Contains (put_all put xs ys) z
      all_has [] ys v w z c = none_among z c
      all_has (x ∷ xs) ys v w z c =
          let cx = v x (head_of x xs) in
          elim (first_or_rest x xs z c) [
            | inl e ↦ subst (Contains (put_all put xs (put x ys))) e
                (all_keeps xs (put x ys) (λ u d. v u (tail_of x xs u d)) (within_put x ys cx w) x (puts.own x ys (λ y d f. one x y cx (w y d) f)))
            | inr among ↦ all_has xs (put x ys) (λ u d. v u (tail_of x xs u d)) (within_put x ys cx w) z among
          ]

    -- the elements of a list, each of a key of its own, put into none in any order, are its elements
    pub put_all_same : (xs zs : List A) → HasOneOfKey zs → SameElements xs zs → SameElements (put_all put xs []) zs
    put_all_same xs zs one same = (
      λ z c. elim (all_from xs [] z c) [ inl among ↦ same.0 z among | inr none ↦ none_among z none ],
      λ z c. all_has zs one xs [] same.0 (λ y d. none_among y d) z (same.1 z c),
    )

    -- the elements of a list in order, put into none in any order, make that list
    pub put_all_is : (xs zs : List A) → IsInOrder zs → SameElements xs zs → put_all put xs [] ≡ zs
    unfolding IsStrictlySortedBy
    put_all_is xs zs h same = in_order_once (put_all put xs []) zs (all_order xs [] tt) h (put_all_same xs zs (one_of_key zs h) same)

  -- the elements of a list in which one gives way
  by_from_at : (r : Ordering) (x y z : A) (ys : List A) → cmp (key x) (key y) ≡ r → (Contains (put_by key cmp x ys) z → (x ≡ z) ⊎ Contains ys z)
      → Contains (put_by key cmp x (y ∷ ys)) z → (x ≡ z) ⊎ Contains (y ∷ ys) z
  by_from_at Less x y z ys e p c = let d : Contains (x ∷ y ∷ ys) z = rw (put_by, e) at c in first_or_rest x (y ∷ ys) z d
  by_from_at Equal x y z ys e p c =
      let d : Contains (x ∷ ys) z = rw (put_by, e) at c in
      elim (first_or_rest x ys z d) [ inl same ↦ inl same | inr among ↦ inr (tail_of y ys z among) ]
  by_from_at Greater x y z ys e p c =
      let d : Contains (y ∷ put_by key cmp x ys) z = rw (put_by, e) at c in
      elim (first_or_rest y (put_by key cmp x ys) z d) [
        | inl same ↦ inr (at_front y z ys same)
        | inr among ↦ elim (p among) [ inl own ↦ inl own | inr more ↦ inr (tail_of y ys z more) ]
      ]

  pub by_from : (x z : A) (ys : List A) → Contains (put_by key cmp x ys) z → (x ≡ z) ⊎ Contains ys z
  by_from x z [] c = first_or_rest x [] z c
  by_from x z (y ∷ ys) c = by_from_at _ x y z ys refl (by_from x z ys) c

  by_own_at : (r : Ordering) (x y : A) (ys : List A) → cmp (key x) (key y) ≡ r → Contains (put_by key cmp x ys) x → Contains (put_by key cmp x (y ∷ ys)) x
  by_own_at Less x y ys e p = rw (put_by, e) (head_of x (y ∷ ys))
  by_own_at Equal x y ys e p = rw (put_by, e) (head_of x ys)
  by_own_at Greater x y ys e p = rw (put_by, e) (tail_of y (put_by key cmp x ys) x p)

  pub by_own : (x : A) (ys : List A) → Contains (put_by key cmp x ys) x
  by_own x [] = head_of x []
  by_own x (y ∷ ys) = by_own_at _ x y ys refl (by_own x ys)

  by_others_at : (r : Ordering) (x y z : A) (ys : List A) → cmp (key x) (key y) ≡ r → (cmp (key x) (key y) ≡ Equal → x ≡ y) → (Contains ys z → Contains (put_by key cmp x ys) z)
      → Contains (y ∷ ys) z → Contains (put_by key cmp x (y ∷ ys)) z
  by_others_at Less x y z ys e t p c = rw (put_by, e) (tail_of x (y ∷ ys) z c)
  by_others_at Equal x y z ys e t p c =
      rw (put_by, e) (elim (first_or_rest y ys z c) [ inl same ↦ at_front x z ys (t e ∙ same) | inr among ↦ tail_of x ys z among ])
  by_others_at Greater x y z ys e t p c =
      rw (put_by, e) (elim (first_or_rest y ys z c) [ inl same ↦ at_front y z (put_by key cmp x ys) same | inr among ↦ tail_of y (put_by key cmp x ys) z (p among) ])

  pub by_others : (x z : A) (ys : List A) → ((y : A) → Contains ys y → cmp (key x) (key y) ≡ Equal → x ≡ y) → Contains ys z → Contains (put_by key cmp x ys) z
  by_others x z [] t c = none_among z c
  by_others x z (y ∷ ys) t c = by_others_at _ x y z ys refl (t y (head_of y ys)) (by_others x z ys (λ w d. t w (tail_of y ys w d))) c
