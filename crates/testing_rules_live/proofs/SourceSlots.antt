-- Elements in slots by name, some of them empty: what a change of the slots does to the elements.
use Rattle.std.specs.Prelude.{ℕ, zero, suc, ◌<◌, Bool, true, false, List, [], ◌∷◌, Option, Some, None, length, get_or, take, map, filter, find}
use Rattle.std.proofs.Common.{◌≡◌, refl, sym, ap, ◌∙◌, subst, arith}
use Rattle.std.specs.List.{AllByRecursion, filter_map}
use Rattle.std.specs.List.Sorted.{IsStrictlySortedBy}
use Rattle.std.specs.Str.{bytes_eq}
use Rattle.std.specs.declared.cmp.Ordering.{Ordering}
use Rattle.std.specs.declared.cmp.Ordering.TheVariants.{Less, Equal, Greater}
use Rattle.std.specs.Ordering.{is_eq}
use Rattle.std.proofs.lemmas.Bool.{false≢true}
use Rattle.std.proofs.lemmas.Map.Text.{is_eq-slice_cmp}
use Rattle.std.proofs.lemmas.Slice.Eq.{bytes_eq-Decides}
use Rattle.testing_rules_items.specs.Words.{Text, byte_cmp, put_by}
use Rattle.testing_rules_model.proofs.KeyOrder.{below_at, turned}
use Rattle.testing_rules_model.proofs.MoreMail.{text_tied}
use Rattle.testing_rules_model.proofs.Orders.{text_order}

abbrev Above : Text → List Text → Type 0
Above k ks = AllByRecursion (λ j. byte_cmp k j ≡ Less) ks

above_all : (j k : Text) (ks : List Text) → byte_cmp j k ≡ Less → Above k ks → Above j ks
above_all j k [] h a = tt
above_all j k (i ∷ ks) h a = (text_order.trans j k i h a.0, above_all j k ks h a.1)

module _ {X : Type 0} (key : X → Text) where
  -- one that stands below all comes first
  first_at : (x y : X) (ys : List X) → byte_cmp (key x) (key y) ≡ Less → put_by key byte_cmp x (y ∷ ys) ≡ x ∷ y ∷ ys
  first_at x y ys e = rw (put_by, e) refl

  first : (x : X) (xs : List X) → Above (key x) (map key xs) → put_by key byte_cmp x xs ≡ x ∷ xs
  first x [] a = refl
  first x (y ∷ ys) a = first_at x y ys a.0

  level : (x y : X) (ys : List X) → byte_cmp (key x) (key y) ≡ Equal → put_by key byte_cmp x (y ∷ ys) ≡ x ∷ ys
  level x y ys e = rw (put_by, e) refl

  behind : (x y : X) (ys : List X) → byte_cmp (key x) (key y) ≡ Greater → put_by key byte_cmp x (y ∷ ys) ≡ y ∷ put_by key byte_cmp x ys
  behind x y ys e = rw (put_by, e) refl

  -- of those in order, the next one comes last
  pub put-next : (xs : List X) (i : ℕ) (d : X) → IsStrictlySortedBy byte_cmp (map key xs) → i < length xs → put_by key byte_cmp (get_or xs i d) (take i xs) ≡ take (suc i) xs
  unfolding IsStrictlySortedBy
  put-next [] i d s h = absurd (omega (arith, h))
  put-next (x ∷ xs) zero d s h = refl
  put-next (x ∷ xs) (suc i) d s h =
      let low : i < length xs = omega (arith, h) in
      let z = get_or xs i d in
      behind z x (take i xs) (turned key text_order (key x) (key z) Less (below_at key text_order (key x) xs i d s.0 low)) ∙ ap (λ t. x ∷ t) (put-next xs i d s.1 low)

  -- a name below all of them has no element
  other : (b : Bool) (name : Text) (x : X) (xs : List X) → bytes_eq (key x) name ≡ b → b ≡ false → find (λ y. bytes_eq (key y) name) (x ∷ xs) ≡ find (λ y. bytes_eq (key y) name) xs
  other b name x xs e f = rw (e, f) refl

  none_above : (name : Text) (xs : List X) → Above name (map key xs) → find (λ y. bytes_eq (key y) name) xs ≡ None
  none_above name [] a = refl
  none_above name (x ∷ xs) a =
      let apart : bytes_eq (key x) name ≡ false = sym (is_eq-slice_cmp (key x) name) ∙ ap is_eq (turned key text_order name (key x) Less a.0) in
      other _ name x xs refl apart ∙ none_above name xs a.1

module _ {S X : Type 0} (name_of : S → Text) (element_of : S → Option X) (key : X → Text) (fits : (s : S) (x : X) → element_of s ≡ Some x → key x ≡ name_of s) where
  above_at : (k : Text) (v : Option X) (s : S) (ss : List S) → element_of s ≡ v → byte_cmp k (name_of s) ≡ Less → Above k (map key (filter_map element_of ss))
      → Above k (map key (filter_map element_of (s ∷ ss)))
  above_at k None s ss e h a = rw e a
  above_at k (Some x) s ss e h a = rw e (ap (byte_cmp k) (fits s x e) ∙ h, a)

  above : (k : Text) (ss : List S) → Above k (map name_of ss) → Above k (map key (filter_map element_of ss))
  above k [] h = tt
  above k (s ∷ ss) h = above_at k _ s ss refl h.0 (above k ss h.1)

  sorted_at : (v : Option X) (s : S) (ss : List S) → element_of s ≡ v → Above (name_of s) (map name_of ss) → IsStrictlySortedBy byte_cmp (map key (filter_map element_of ss))
      → IsStrictlySortedBy byte_cmp (map key (filter_map element_of (s ∷ ss)))
  unfolding IsStrictlySortedBy
  sorted_at None s ss e a h = rw e h
  sorted_at (Some x) s ss e a h = rw e (subst (λ k. Above k (map key (filter_map element_of ss))) (sym (fits s x e)) (above (name_of s) ss a), h)

  -- the elements are in order too
  pub sorted : (ss : List S) → IsStrictlySortedBy byte_cmp (map name_of ss) → IsStrictlySortedBy byte_cmp (map key (filter_map element_of ss))
  unfolding IsStrictlySortedBy
  sorted [] h = tt
  sorted (s ∷ ss) h = sorted_at _ s ss refl h.0 (sorted ss h.1)

  module _ (s : S) (x : X) (is : element_of s ≡ Some x) where
    came : (ss : List S) → filter_map element_of (s ∷ ss) ≡ x ∷ filter_map element_of ss
    came ss = rw is refl

    empty : (t : S) (ts : List S) → element_of t ≡ None → filter_map element_of (t ∷ ts) ≡ filter_map element_of ts
    empty t ts e = rw e refl

    there : (y : X) (t : S) (ts : List S) → element_of t ≡ Some y → filter_map element_of (t ∷ ts) ≡ y ∷ filter_map element_of ts
    there y t ts e = rw e refl

    compared : (r : Ordering) (y : X) (t : S) → element_of t ≡ Some y → byte_cmp (name_of s) (name_of t) ≡ r → byte_cmp (key x) (key y) ≡ r
    compared r y t e c = rw (fits s x is, fits t y e) c

    put_first : (ss : List S) → Above (name_of s) (map name_of ss) → put_by key byte_cmp x (filter_map element_of ss) ≡ x ∷ filter_map element_of ss
    put_first ss a = first key x (filter_map element_of ss) (subst (λ k. Above k (map key (filter_map element_of ss))) (sym (fits s x is)) (above (name_of s) ss a))

    abbrev IsPut : List S → Type 0
    IsPut ss = filter_map element_of (put_by name_of byte_cmp s ss) ≡ put_by key byte_cmp x (filter_map element_of ss)

    put_at : (r : Ordering) (v : Option X) (t : S) (ts : List S) → byte_cmp (name_of s) (name_of t) ≡ r → element_of t ≡ v → Above (name_of t) (map name_of ts) → IsPut ts → IsPut (t ∷ ts)
    put_at Less v t ts c e a h =
        ap (filter_map element_of) (first_at name_of s t ts c) ∙ came (t ∷ ts)
        ∙ sym (put_first (t ∷ ts) (c, above_all (name_of s) (name_of t) (map name_of ts) c a))
    put_at Equal None t ts c e a h =
        let low = subst (λ k. Above k (map name_of ts)) (sym (text_tied (name_of s) (name_of t) c)) a in
        ap (filter_map element_of) (level name_of s t ts c) ∙ came ts ∙ sym (put_first ts low) ∙ ap (put_by key byte_cmp x) (sym (empty t ts e))
    put_at Equal (Some y) t ts c e a h =
        ap (filter_map element_of) (level name_of s t ts c) ∙ came ts ∙ sym (level key x y (filter_map element_of ts) (compared Equal y t e c)) ∙ ap (put_by key byte_cmp x) (sym (there y t ts e))
    put_at Greater None t ts c e a h =
        ap (filter_map element_of) (behind name_of s t ts c) ∙ empty t (put_by name_of byte_cmp s ts) e ∙ h ∙ ap (put_by key byte_cmp x) (sym (empty t ts e))
    put_at Greater (Some y) t ts c e a h =
        ap (filter_map element_of) (behind name_of s t ts c) ∙ there y t (put_by name_of byte_cmp s ts) e ∙ ap (λ l. y ∷ l) h
        ∙ sym (behind key x y (filter_map element_of ts) (compared Greater y t e c)) ∙ ap (put_by key byte_cmp x) (sym (there y t ts e))

    -- a slot that is put in puts its element in
    pub put : (ss : List S) → IsStrictlySortedBy byte_cmp (map name_of ss) → IsPut ss
    unfolding IsStrictlySortedBy
    put [] h = came []
    put (t ∷ ts) h = put_at _ _ t ts refl refl h.0 (put ts h.1)

  module _ (keep : Text → Bool) where
    abbrev IsKept : List S → Type 0
    IsKept ss = filter_map element_of (filter (λ s. keep (name_of s)) ss) ≡ filter (λ x. keep (key x)) (filter_map element_of ss)

    kept_at : (b : Bool) (v : Option X) (s : S) (ss : List S) → keep (name_of s) ≡ b → element_of s ≡ v → IsKept ss → IsKept (s ∷ ss)
    kept_at true None s ss k e h = rw (k, e) h
    kept_at true (Some x) s ss k e h =
        let same : keep (key x) ≡ true = ap keep (fits s x e) ∙ k in
        rw (k, e, same) (ap (λ l. x ∷ l) h)
    kept_at false None s ss k e h = rw (k, e) h
    kept_at false (Some x) s ss k e h =
        let same : keep (key x) ≡ false = ap keep (fits s x e) ∙ k in
        rw (k, e, same) h

    -- slots that are left out leave their elements out
    pub kept : (ss : List S) → IsKept ss
    kept [] = refl
    kept (s ∷ ss) = kept_at _ _ s ss refl refl (kept ss)

  module _ (name : Text) where
    abbrev IsSought : List S → Option S → Type 0
    IsSought ss found = find (λ s. bytes_eq (name_of s) name) ss ≡ found

    abbrev Has : List S → Option X → Type 0
    Has ss found = find (λ x. bytes_eq (key x) name) (filter_map element_of ss) ≡ found

    named : (v : Option X) (s : S) (ss : List S) → bytes_eq (name_of s) name ≡ true → element_of s ≡ v → Above (name_of s) (map name_of ss) → Has (s ∷ ss) v
    named None s ss k e a =
        let is = (bytes_eq-Decides (name_of s) name).0 k in
        rw e (none_above key name (filter_map element_of ss) (above name ss (subst (λ n. Above n (map name_of ss)) is a)))
    named (Some x) s ss k e a =
        let same : bytes_eq (key x) name ≡ true = ap (λ n. bytes_eq n name) (fits s x e) ∙ k in
        rw (e, same) refl

    passed : (v found : Option X) (s : S) (ss : List S) → bytes_eq (name_of s) name ≡ false → element_of s ≡ v → Has ss found → Has (s ∷ ss) found
    passed None found s ss k e h = rw e h
    passed (Some x) found s ss k e h =
        let same : bytes_eq (key x) name ≡ false = ap (λ n. bytes_eq n name) (fits s x e) ∙ k in
        rw (e, same) h

    found_at : (b : Bool) (t : S) (s : S) (ss : List S) → bytes_eq (name_of s) name ≡ b → Above (name_of s) (map name_of ss) → (IsSought ss (Some t) → Has ss (element_of t))
        → IsSought (s ∷ ss) (Some t) → Has (s ∷ ss) (element_of t)
    found_at true t s ss k a more h = subst (λ v. Has (s ∷ ss) v) (ap element_of (is_some s t (rw k at h))) (named _ s ss k refl a)
      where
        is_some : (p q : S) → Some p ≡ Some q → p ≡ q
        is_some p q e = cc
    found_at false t s ss k a more h = passed _ (element_of t) s ss k refl (more (rw k at h))

    -- the element of a name is that of its slot
    pub found : (t : S) (ss : List S) → IsStrictlySortedBy byte_cmp (map name_of ss) → IsSought ss (Some t) → Has ss (element_of t)
    unfolding IsStrictlySortedBy
    found t [] s h = let never : ⊥ = cc in absurd never
    found t (s ∷ ss) o h = found_at _ t s ss refl o.0 (found t ss o.1) h

    missing_at : (b : Bool) (s : S) (ss : List S) → bytes_eq (name_of s) name ≡ b → (IsSought ss None → Has ss None) → IsSought (s ∷ ss) None → Has (s ∷ ss) None
    missing_at true s ss k more h = let never : ⊥ = is_none s (rw k at h) in absurd never
      where
        is_none : (p : S) → Some p ≡ None → ⊥
        is_none p e = cc
    missing_at false s ss k more h = passed _ None s ss k refl (more (rw k at h))

    -- and there is none where there is no slot
    pub missing : (ss : List S) → IsSought ss None → Has ss None
    missing [] h = refl
    missing (s ∷ ss) h = missing_at _ s ss refl (missing ss) h
