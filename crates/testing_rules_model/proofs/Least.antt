-- The first of each key is the same in lists with the same elements.
use Rattle.std.specs.Prelude.{Bool, true, false, cond, List, [], ◌∷◌, Contains, Option, Some, None, filter, map}
use Rattle.std.proofs.Common.{◌≡◌, refl, sym, ap, ◌∙◌, inl, inr, ◌⊎◌}
use Rattle.std.proofs.lemmas.Bool.{false≢true}
use Rattle.std.specs.List.{filter_map}
use Rattle.std.specs.declared.cmp.Ordering.{Ordering}
use Rattle.std.specs.declared.cmp.Ordering.TheVariants.{Less, Equal, Greater}
use Rattle.std.specs.Ordering.{is_lt, ordering_reverse}
use Rattle.std.specs.Cmp.{IsTotalOrder}
use Rattle.testing_rules_items.specs.Words.{lesser, least, sorted_by}
use Rattle.testing_rules_model.specs.SameMessages.{SameElements}
use Rattle.testing_rules_items.proofs.Members.{none_among, tail_of}
use Rattle.testing_rules_model.proofs.First.{NoneBelow, least-none_below}
use Rattle.testing_rules_model.proofs.Sets.{first_or_rest, at_front, TiedAmong, same-mapped, same-sorted}

-- the elements that pass a test
module _ {A : Type 0} (t : A → Bool) where
  from_at : (b : Bool) (x y : A) (xs : List A) → t x ≡ b → (Contains (filter t xs) y → Contains xs y × (t y ≡ true)) → Contains (filter t (x ∷ xs)) y → Contains (x ∷ xs) y × (t y ≡ true)
  from_at true x y xs e p c =
      let d : Contains (x ∷ filter t xs) y = rw e at c in
      elim (first_or_rest x (filter t xs) y d) [
        | inl same ↦ (at_front x y xs same, sym (ap t same) ∙ e)
        | inr among ↦ let q = p among in (tail_of x xs y q.0, q.1)
      ]
  from_at false x y xs e p c = let d : Contains (filter t xs) y = rw e at c in let q = p d in (tail_of x xs y q.0, q.1)

  pub from_filter : (xs : List A) (y : A) → Contains (filter t xs) y → Contains xs y × (t y ≡ true)
  from_filter [] y c = none_among y c
  from_filter (x ∷ xs) y c = from_at _ x y xs refl (from_filter xs y) c

  to_at : (b : Bool) (x y : A) (xs : List A) → t x ≡ b → (Contains xs y → Contains (filter t xs) y) → t y ≡ true → Contains (x ∷ xs) y → Contains (filter t (x ∷ xs)) y
  to_at true x y xs e p h c = rw e (elim (first_or_rest x xs y c) [ inl same ↦ at_front x y (filter t xs) same | inr among ↦ tail_of x (filter t xs) y (p among) ])
  to_at false x y xs e p h c = rw e (elim (first_or_rest x xs y c) [ inl same ↦ absurd (false≢true (sym e ∙ ap t same ∙ h)) | inr among ↦ p among ])

  pub to_filter : (xs : List A) (y : A) → Contains xs y → t y ≡ true → Contains (filter t xs) y
  to_filter [] y c h = none_among y c
  to_filter (x ∷ xs) y c h = to_at _ x y xs refl (λ d. to_filter xs y d h) h c

  pub same-filtered : (xs ys : List A) → SameElements xs ys → SameElements (filter t xs) (filter t ys)
  same-filtered xs ys same = (
    λ y c. let q = from_filter xs y c in to_filter ys y (same.0 y q.0) q.1,
    λ y c. let q = from_filter ys y c in to_filter xs y (same.1 y q.0) q.1,
  )

  pub tied-filtered : {rank : A → A → Ordering} (xs : List A) → TiedAmong rank xs → TiedAmong rank (filter t xs)
  tied-filtered xs tied x y c d e = tied x y (from_filter xs x c).0 (from_filter xs y d).0 e

module _ {A : Type 0} {rank : A → A → Ordering} (o : IsTotalOrder rank) where
  lesser_test : (b : Bool) (z w u : A) → is_lt (rank w z) ≡ b → lesser rank z (Some w) ≡ Some u → (z ≡ u) ⊎ (Some w ≡ Some u)
  lesser_test true z w u q e = let k : Some w ≡ Some u = rw q at e in inr k
  lesser_test false z w u q e = let k : Some z ≡ Some u = rw q at e in let same : z ≡ u = cc in inl same

  lesser_from : (v : Option A) (z u : A) → lesser rank z v ≡ Some u → (z ≡ u) ⊎ (v ≡ Some u)
  lesser_from None z u e = let same : z ≡ u = cc in inl same
  lesser_from (Some w) z u e = lesser_test _ z w u refl e

  pub least_from : (zs : List A) (u : A) → least rank zs ≡ Some u → Contains zs u
  least_from [] u e = let no : None ≡ Some u = e in cc
  least_from (z ∷ zs) u e = elim (lesser_from (least rank zs) z u e) [
    | inl same ↦ at_front z u zs same
    | inr rest ↦ tail_of z zs u (least_from zs u rest)
  ]

  lesser_some : {P : Type 0} (v : Option A) (z : A) → lesser rank z v ≡ None → P
  lesser_some None z e = let no : Some z ≡ None = e in absurd (let never : ⊥ = cc in never)
  lesser_some (Some w) z e = let no : Some (cond (is_lt (rank w z)) w z) ≡ None = e in absurd (let never : ⊥ = cc in never)

  none_least : {P : Type 0} (zs : List A) (y : A) → least rank zs ≡ None → Contains zs y → P
  none_least [] y e c = none_among y c
  none_least (z ∷ zs) y e c = lesser_some (least rank zs) z e

  not_below : (u z : A) (zs : List A) → NoneBelow o u zs → Contains zs z → is_lt (rank z u) ≡ false
  not_below u z [] n c = none_among z c
  not_below u z (y ∷ zs) n c = elim (first_or_rest y zs z c) [
    | inl same ↦ ap (λ w. is_lt (rank w u)) (sym same) ∙ n.0
    | inr among ↦ not_below u z zs n.1 among
  ]

  ties : (r : Ordering) (u w : A) → rank u w ≡ r → is_lt (rank u w) ≡ false → is_lt (rank w u) ≡ false → rank u w ≡ Equal
  ties Less u w e h k = absurd (false≢true (sym h ∙ ap is_lt e))
  ties Equal u w e h k = e
  ties Greater u w e h k = absurd (false≢true (sym k ∙ ap is_lt (o.antisymm w u ∙ ap ordering_reverse e)))

  same_at : (v w : Option A) (xs ys : List A) → least rank xs ≡ v → least rank ys ≡ w → TiedAmong rank xs → SameElements xs ys → v ≡ w
  same_at None None xs ys e f t same = refl
  same_at None (Some w) xs ys e f t same = none_least xs w e (same.1 w (least_from ys w f))
  same_at (Some u) None xs ys e f t same = none_least ys u f (same.0 u (least_from xs u e))
  same_at (Some u) (Some w) xs ys e f t same =
      let mine = least_from xs u e in
      let theirs = least_from ys w f in
      let low = not_below w u ys (least-none_below o ys w f) (same.0 u mine) in
      let high = not_below u w xs (least-none_below o xs u e) (same.1 w theirs) in
      ap Some (t u w mine (same.1 w theirs) (ties _ u w refl low high))

  -- the first element
  pub same-least : (xs ys : List A) → TiedAmong rank xs → SameElements xs ys → least rank xs ≡ least rank ys
  same-least xs ys t same = same_at _ _ xs ys refl refl t same

pub filter_map-same : {A B : Type 0} (f g : A → Option B) → ((x : A) → f x ≡ g x) → (xs : List A) → filter_map f xs ≡ filter_map g xs
filter_map-same f g h [] = refl
filter_map-same f g h (x ∷ xs) = rw (h x, filter_map-same f g h xs) refl

module _ {A K : Type 0} {rank : A → A → Ordering} (o : IsTotalOrder rank) {cmp : K → K → Ordering} (c : IsTotalOrder cmp) (tied : (j k : K) → cmp j k ≡ Equal → j ≡ k)
    (key : A → K) (test : K → A → Bool) where
  -- and so the first ones of all keys
  pub same-chosen : (xs ys : List A) → TiedAmong rank xs → SameElements xs ys
      → filter_map (λ k. least rank (filter (test k) xs)) (sorted_by (λ k. k) cmp (map key xs)) ≡ filter_map (λ k. least rank (filter (test k) ys)) (sorted_by (λ k. k) cmp (map key ys))
  same-chosen xs ys t same =
      filter_map-same _ _ (λ k. same-least o (filter (test k) xs) (filter (test k) ys) (tied-filtered (test k) xs t) (same-filtered (test k) xs ys same)) (sorted_by (λ k. k) cmp (map key xs))
      ∙ ap (filter_map (λ k. least rank (filter (test k) ys)))
      (same-sorted c (map key xs) (map key ys) (λ j k d f e. tied j k e) (λ j k d f e. tied j k e) (same-mapped key xs ys same))
