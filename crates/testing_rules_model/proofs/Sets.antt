-- Lists with the same elements.
use Rattle.std.specs.Prelude.{List, [], ◌∷◌, Contains, Option, Some, None, map}
use Rattle.std.proofs.Common.{◌≡◌, refl, sym, ap, ◌∙◌, subst, inl, inr, ◌⊎◌}
use Rattle.std.proofs.lemmas.Cmp.{tied_itself}
use Rattle.std.proofs.lemmas.List.Elements.{Contains-append_left, Contains-append_right, Contains-push_cases, Contains-append_cases}
use Rattle.std.specs.List.{filter_map, flat_map, cons_option}
use Rattle.std.specs.declared.cmp.Ordering.{Ordering}
use Rattle.std.specs.declared.cmp.Ordering.TheVariants.{Less, Equal, Greater}
use Rattle.std.specs.Cmp.{IsTotalOrder}
use Rattle.testing_rules_items.specs.Words.{put_by, sorted_by}
use Rattle.testing_rules_model.specs.SameMessages.{SameElements}
use Rattle.testing_rules_items.proofs.Members.{none_among, head_of, tail_of}
use Rattle.testing_rules_model.proofs.Picks.{AllAbove, Rises, rises-sorted}

-- an element of a list is its first or one of the rest
pub first_or_rest : {A : Type 0} (x : A) (xs : List A) (y : A) → Contains (x ∷ xs) y → (x ≡ y) ⊎ Contains xs y
first_or_rest x xs y c = elim (Contains-append_cases (x ∷ []) xs y c) [
  | inl own ↦ elim (Contains-push_cases [] x y own) [ inl never ↦ none_among y never | inr e ↦ inl e ]
  | inr among ↦ inr among
]

pub at_front : {A : Type 0} (x y : A) (xs : List A) → x ≡ y → Contains (x ∷ xs) y
at_front x y xs e = subst (λ z. Contains (x ∷ xs) z) e (head_of x xs)

-- what a function gives of the elements
module _ {A B : Type 0} (f : A → Option B) where
  to_option : (v : Option B) (ys : List B) (y : B) → Contains (cons_option v ys) y → (v ≡ Some y) ⊎ Contains ys y
  to_option None ys y c = inr c
  to_option (Some x) ys y c = elim (first_or_rest x ys y c) [ inl e ↦ inl (ap Some e) | inr among ↦ inr among ]

  pub given_by : (xs : List A) (y : B) → Contains (filter_map f xs) y → (x : A) × Contains xs x × (f x ≡ Some y)
  given_by [] y c = none_among y c
  given_by (x ∷ xs) y c = elim (to_option (f x) (filter_map f xs) y c) [
    | inl e ↦ (x, head_of x xs, e)
    | inr among ↦ let rest = given_by xs y among in (rest.0, tail_of x xs rest.0 rest.1, rest.2)
  ]

  own_given : (v : Option B) (ys : List B) (y : B) → v ≡ Some y → Contains (cons_option v ys) y
  own_given None ys y e = let no : None ≡ Some y = e in cc
  own_given (Some x) ys y e = let same : x ≡ y = cc in at_front x y ys same

  rest_given : (v : Option B) (ys : List B) (y : B) → Contains ys y → Contains (cons_option v ys) y
  rest_given None ys y c = c
  rest_given (Some x) ys y c = tail_of x ys y c

  pub gives : (xs : List A) (x : A) (y : B) → Contains xs x → f x ≡ Some y → Contains (filter_map f xs) y
  gives [] x y c e = none_among x c
  gives (z ∷ xs) x y c e = elim (first_or_rest z xs x c) [
    | inl same ↦ own_given (f z) (filter_map f xs) y (ap f same ∙ e)
    | inr among ↦ rest_given (f z) (filter_map f xs) y (gives xs x y among e)
  ]

  pub same-given : (xs ys : List A) → SameElements xs ys → SameElements (filter_map f xs) (filter_map f ys)
  same-given xs ys same = (
    λ y c. let x = given_by xs y c in gives ys x.0 y (same.0 x.0 x.1) x.2,
    λ y c. let x = given_by ys y c in gives xs x.0 y (same.1 x.0 x.1) x.2,
  )

module _ {A B : Type 0} (f : A → List B) where
  pub spread_from : (xs : List A) (y : B) → Contains (flat_map f xs) y → (x : A) × Contains xs x × Contains (f x) y
  spread_from [] y c = none_among y c
  spread_from (x ∷ xs) y c = elim (Contains-append_cases (f x) (flat_map f xs) y c) [
    | inl own ↦ (x, head_of x xs, own)
    | inr among ↦ let rest = spread_from xs y among in (rest.0, tail_of x xs rest.0 rest.1, rest.2)
  ]

  pub spreads : (xs : List A) (x : A) (y : B) → Contains xs x → Contains (f x) y → Contains (flat_map f xs) y
  spreads [] x y c d = none_among x c
  spreads (z ∷ xs) x y c d = elim (first_or_rest z xs x c) [
    | inl same ↦ Contains-append_left (f z) (flat_map f xs) y (subst (λ w. Contains (f w) y) (sym same) d)
    | inr among ↦ Contains-append_right (f z) (flat_map f xs) y (spreads xs x y among d)
  ]

  pub same-spread : (xs ys : List A) → SameElements xs ys → SameElements (flat_map f xs) (flat_map f ys)
  same-spread xs ys same = (
    λ y c. let x = spread_from xs y c in spreads ys x.0 y (same.0 x.0 x.1) x.2,
    λ y c. let x = spread_from ys y c in spreads xs x.0 y (same.1 x.0 x.1) x.2,
  )

module _ {A B : Type 0} (f : A → B) where
  pub mapped_from : (xs : List A) (y : B) → Contains (map f xs) y → (x : A) × Contains xs x × (f x ≡ y)
  mapped_from [] y c = none_among y c
  mapped_from (x ∷ xs) y c = elim (first_or_rest (f x) (map f xs) y c) [
    | inl e ↦ (x, head_of x xs, e)
    | inr among ↦ let rest = mapped_from xs y among in (rest.0, tail_of x xs rest.0 rest.1, rest.2)
  ]

  pub maps : (xs : List A) (x : A) → Contains xs x → Contains (map f xs) (f x)
  maps [] x c = none_among x c
  maps (z ∷ xs) x c = elim (first_or_rest z xs x c) [
    | inl same ↦ at_front (f z) (f x) (map f xs) (ap f same)
    | inr among ↦ tail_of (f z) (map f xs) (f x) (maps xs x among)
  ]

  pub same-mapped : (xs ys : List A) → SameElements xs ys → SameElements (map f xs) (map f ys)
  same-mapped xs ys same = (
    λ y c. let x = mapped_from xs y c in subst (λ z. Contains (map f ys) z) x.2 (maps ys x.0 (same.0 x.0 x.1)),
    λ y c. let x = mapped_from ys y c in subst (λ z. Contains (map f xs) z) x.2 (maps xs x.0 (same.1 x.0 x.1)),
  )

-- two elements of the list that tie are one
abbrev pub TiedAmong : {A : Type 0} → (A → A → Ordering) → List A → Type 0
TiedAmong {A} cmp xs = (x y : A) → Contains xs x → Contains xs y → cmp x y ≡ Equal → x ≡ y

module _ {A : Type 0} {cmp : A → A → Ordering} (o : IsTotalOrder cmp) where
  -- an element that is put into a list
  put_at : (r : Ordering) (x y z : A) (ys : List A) → cmp x y ≡ r → (Contains (put_by (λ k. k) cmp x ys) z → (x ≡ z) ⊎ Contains ys z)
      → Contains (put_by (λ k. k) cmp x (y ∷ ys)) z → (x ≡ z) ⊎ Contains (y ∷ ys) z
  put_at Less x y z ys e p c = let d : Contains (x ∷ y ∷ ys) z = rw (put_by, e) at c in first_or_rest x (y ∷ ys) z d
  put_at Equal x y z ys e p c =
      let d : Contains (x ∷ ys) z = rw (put_by, e) at c in
      elim (first_or_rest x ys z d) [ inl same ↦ inl same | inr among ↦ inr (tail_of y ys z among) ]
  put_at Greater x y z ys e p c =
      let d : Contains (y ∷ put_by (λ k. k) cmp x ys) z = rw (put_by, e) at c in
      elim (first_or_rest y (put_by (λ k. k) cmp x ys) z d) [
        | inl same ↦ inr (at_front y z ys same)
        | inr among ↦ elim (p among) [ inl own ↦ inl own | inr more ↦ inr (tail_of y ys z more) ]
      ]

  pub put_from : (x z : A) (ys : List A) → Contains (put_by (λ k. k) cmp x ys) z → (x ≡ z) ⊎ Contains ys z
  put_from x z [] c = first_or_rest x [] z c
  put_from x z (y ∷ ys) c = put_at _ x y z ys refl (put_from x z ys) c

  own_at : (r : Ordering) (x y : A) (ys : List A) → cmp x y ≡ r → Contains (put_by (λ k. k) cmp x ys) x → Contains (put_by (λ k. k) cmp x (y ∷ ys)) x
  own_at Less x y ys e p = rw (put_by, e) (head_of x (y ∷ ys))
  own_at Equal x y ys e p = rw (put_by, e) (head_of x ys)
  own_at Greater x y ys e p = rw (put_by, e) (tail_of y (put_by (λ k. k) cmp x ys) x p)

  put_own : (x : A) (ys : List A) → Contains (put_by (λ k. k) cmp x ys) x
  put_own x [] = head_of x []
  put_own x (y ∷ ys) = own_at _ x y ys refl (put_own x ys)

  others_at : (r : Ordering) (x y z : A) (ys : List A) → cmp x y ≡ r → (y ≡ z → cmp x y ≡ Equal → x ≡ z) → (Contains ys z → Contains (put_by (λ k. k) cmp x ys) z)
      → Contains (y ∷ ys) z → Contains (put_by (λ k. k) cmp x (y ∷ ys)) z
  others_at Less x y z ys e t p c = rw (put_by, e) (tail_of x (y ∷ ys) z c)
  others_at Equal x y z ys e t p c =
      rw (put_by, e) (elim (first_or_rest y ys z c) [ inl same ↦ at_front x z ys (t same e) | inr among ↦ tail_of x ys z among ])
  others_at Greater x y z ys e t p c =
      rw (put_by, e) (elim (first_or_rest y ys z c) [ inl same ↦ at_front y z (put_by (λ k. k) cmp x ys) same | inr among ↦ tail_of y (put_by (λ k. k) cmp x ys) z (p among) ])

  put_others : (x z : A) (ys : List A) → ((y : A) → Contains ys y → cmp x y ≡ Equal → x ≡ y) → Contains ys z → Contains (put_by (λ k. k) cmp x ys) z
  put_others x z [] t c = none_among z c
  put_others x z (y ∷ ys) t c =
      others_at _ x y z ys refl (λ same e. t y (head_of y ys) e ∙ same) (λ among. put_others x z ys (λ w d. t w (tail_of y ys w d)) among) c

  -- sorting keeps the elements
  pub from_sorted : (xs : List A) (z : A) → Contains (sorted_by (λ k. k) cmp xs) z → Contains xs z
  from_sorted [] z c = c
  from_sorted (x ∷ xs) z c = elim (put_from x z (sorted_by (λ k. k) cmp xs) c) [
    | inl same ↦ at_front x z xs same
    | inr among ↦ tail_of x xs z (from_sorted xs z among)
  ]

  pub to_sorted : (xs : List A) → TiedAmong cmp xs → (z : A) → Contains xs z → Contains (sorted_by (λ k. k) cmp xs) z
  to_sorted [] t z c = c
  to_sorted (x ∷ xs) t z c =
      let js = sorted_by (λ k. k) cmp xs in
      elim (first_or_rest x xs z c) [
        | inl same ↦ subst (λ w. Contains (put_by (λ k. k) cmp x js) w) same (put_own x js)
        | inr among ↦ put_others x z js (λ y d e. t x y (head_of x xs) (tail_of x xs y (from_sorted xs y d)) e)
            (to_sorted xs (λ y w d f. t y w (tail_of x xs y d) (tail_of x xs w f)) z among)
      ]

  above_all : (x z : A) (xs : List A) → AllAbove o x xs → Contains xs z → cmp x z ≡ Less
  above_all x z [] a c = none_among z c
  above_all x z (y ∷ xs) a c = elim (first_or_rest y xs z c) [
    | inl same ↦ ap (cmp x) (sym same) ∙ a.0
    | inr among ↦ above_all x z xs a.1 among
  ]

  not_itself : {P : Type 0} (x : A) → cmp x x ≡ Less → P
  not_itself x e = let no : Less ≡ Equal = sym e ∙ tied_itself o x in absurd (let never : ⊥ = cc in never)

  heads : (x y : A) (xs ys : List A) → Rises o (x ∷ xs) → Rises o (y ∷ ys) → SameElements (x ∷ xs) (y ∷ ys) → x ≡ y
  heads x y xs ys r q same = elim (first_or_rest y ys x (same.0 x (head_of x xs))) [
    | inl e ↦ sym e
    | inr low ↦ elim (first_or_rest x xs y (same.1 y (head_of y ys))) [
      | inl e ↦ e
      | inr high ↦ not_itself x (o.trans x y x (above_all x y xs r.0 high) (above_all y x ys q.0 low))
    ]
  ]

  rest : (x y : A) (xs ys : List A) → x ≡ y → Rises o (x ∷ xs) → ((z : A) → Contains (x ∷ xs) z → Contains (y ∷ ys) z) → (z : A) → Contains xs z → Contains ys z
  rest x y xs ys e r same z c = elim (first_or_rest y ys z (same z (tail_of x xs z c))) [
    | inl own ↦ not_itself x (ap (cmp x) (e ∙ own) ∙ above_all x z xs r.0 c)
    | inr among ↦ among
  ]

  -- two lists that rise and have the same elements are one
  pub rises-unique : (xs ys : List A) → Rises o xs → Rises o ys → SameElements xs ys → xs ≡ ys
  rises-unique [] [] r q same = refl
  rises-unique [] (y ∷ ys) r q same = none_among y (same.1 y (head_of y ys))
  rises-unique (x ∷ xs) [] r q same = none_among x (same.0 x (head_of x xs))
  rises-unique (x ∷ xs) (y ∷ ys) r q same =
      let e = heads x y xs ys r q same in
      let tails = rises-unique xs ys r.1 q.1 (rest x y xs ys e r same.0, rest y x ys xs (sym e) q same.1) in
      ap (λ z. z ∷ xs) e ∙ ap (λ zs. y ∷ zs) tails

  pub same-sorted : (xs ys : List A) → TiedAmong cmp xs → TiedAmong cmp ys → SameElements xs ys → sorted_by (λ k. k) cmp xs ≡ sorted_by (λ k. k) cmp ys
  same-sorted xs ys t u same =
      rises-unique (sorted_by (λ k. k) cmp xs) (sorted_by (λ k. k) cmp ys) (rises-sorted o xs) (rises-sorted o ys)
      (λ z c. to_sorted ys u z (same.0 z (from_sorted xs z c)), λ z c. to_sorted xs t z (same.1 z (from_sorted ys z c)))
