-- What gives way to an element that is put into a list in the strict order of its keys, and where it comes in.
use Rattle.std.specs.Prelude.{ℕ, zero, suc, ◌<◌, ◌≤◌, Bool, true, false, not, cond, List, [], ◌∷◌, ◌++◌, length, get_or, map, filter}
use Rattle.std.proofs.Common.{◌≡◌, refl, sym, ap, ◌∙◌, arith, inl, inr}
use Rattle.std.specs.List.{AllByRecursion}
use Rattle.std.specs.List.Sorted.{IsStrictlySortedBy, IsPartitionPoint}
use Rattle.std.specs.Cmp.{IsTotalOrder}
use Rattle.std.specs.declared.cmp.Ordering.{Ordering}
use Rattle.std.specs.declared.cmp.Ordering.TheVariants.{Less, Equal, Greater}
use Rattle.std.specs.Ordering.{is_lt, is_eq}
use Rattle.testing_rules_facts.specs.steps.ElementShifts.{way_given, come_in}
use Rattle.testing_rules_model.proofs.KeyOrder.{below_at, turned}
use Rattle.std.proofs.lemmas.Bool.{cases_lt}
use Rattle.testing_rules_model.proofs.Lifted.{AllBelow, AllAbove}

module _ {A K : Type 0} (key : A → K) {cmp : K → K → Ordering} (o : IsTotalOrder cmp) (rank : A → A → Ordering) (x : A) where
  abbrev way : List A → List A
  way = way_given key cmp rank x

  abbrev come : List A → List A
  come = come_in key cmp rank x

  way_behind : (y : A) (ys : List A) → cmp (key x) (key y) ≡ Greater → way (y ∷ ys) ≡ way ys
  way_behind y ys e = rw (way_given, e) refl

  come_behind : (y : A) (ys : List A) → cmp (key x) (key y) ≡ Greater → come (y ∷ ys) ≡ come ys
  come_behind y ys e = rw (come_in, e) refl

  way_ahead : (y : A) (ys : List A) → cmp (key x) (key y) ≡ Less → way (y ∷ ys) ≡ []
  way_ahead y ys e = rw (way_given, e) refl

  come_ahead : (y : A) (ys : List A) → cmp (key x) (key y) ≡ Less → come (y ∷ ys) ≡ x ∷ []
  come_ahead y ys e = rw (come_in, e) refl

  way_level : (y : A) (ys : List A) → cmp (key x) (key y) ≡ Equal → way (y ∷ ys) ≡ cond (is_lt (rank y x)) [] (y ∷ [])
  way_level y ys e = rw (way_given, e) refl

  come_level : (y : A) (ys : List A) → cmp (key x) (key y) ≡ Equal → come (y ∷ ys) ≡ cond (is_lt (rank y x)) [] (x ∷ [])
  come_level y ys e = rw (come_in, e) refl

  greater_than : (y : A) (ys : List A) (i : ℕ) (d : A) → AllByRecursion (λ l. cmp (key y) l ≡ Less) (map key ys) → i < length ys → cmp (key (get_or ys i d)) (key x) ≡ Equal → cmp (key x) (key y) ≡ Greater
  greater_than y ys i d a low e =
      let z = get_or ys i d in
      sym (o.congr (key z) (key x) (key y) e) ∙ turned key o (key y) (key z) Less (below_at key o (key y) ys i d a low)

  -- one of its key gives way, unless it stands before it
  pub way-at : (b : Bool) (xs : List A) (i : ℕ) (d : A) → IsStrictlySortedBy cmp (map key xs) → i < length xs → cmp (key (get_or xs i d)) (key x) ≡ Equal
      → is_lt (rank (get_or xs i d) x) ≡ b → way xs ≡ cond b [] (get_or xs i d ∷ [])
  unfolding IsStrictlySortedBy
  way-at b [] i d s h e f = absurd (omega (arith, h))
  way-at b (y ∷ ys) zero d s h e f = way_level y ys (turned key o (key y) (key x) Equal e) ∙ ap (λ c. cond c [] (y ∷ [])) f
  way-at b (y ∷ ys) (suc i) d s h e f =
      let low : i < length ys = omega (arith, h) in
      way_behind y ys (greater_than y ys i d s.0 low e) ∙ way-at b ys i d s.1 low e f

  pub come-at : (b : Bool) (xs : List A) (i : ℕ) (d : A) → IsStrictlySortedBy cmp (map key xs) → i < length xs → cmp (key (get_or xs i d)) (key x) ≡ Equal
      → is_lt (rank (get_or xs i d) x) ≡ b → come xs ≡ cond b [] (x ∷ [])
  unfolding IsStrictlySortedBy
  come-at b [] i d s h e f = absurd (omega (arith, h))
  come-at b (y ∷ ys) zero d s h e f = come_level y ys (turned key o (key y) (key x) Equal e) ∙ ap (λ c. cond c [] (x ∷ [])) f
  come-at b (y ∷ ys) (suc i) d s h e f =
      let low : i < length ys = omega (arith, h) in
      come_behind y ys (greater_than y ys i d s.0 low e) ∙ come-at b ys i d s.1 low e f

  missing : (xs : List A) (i : ℕ) → ((j : ℕ) (d : A) → j < length xs → j < i → cmp (key (get_or xs j d)) (key x) ≡ Less)
      → ((j : ℕ) (d : A) → i ≤ j → j < length xs → cmp (key (get_or xs j d)) (key x) ≡ Greater) → (way xs ≡ []) × (come xs ≡ x ∷ [])
  missing [] i below above = (refl, refl)
  missing (y ∷ ys) zero below above =
      let e = turned key o (key y) (key x) Greater (above zero y (omega arith) (omega arith)) in
      (way_ahead y ys e, come_ahead y ys e)
  missing (y ∷ ys) (suc i) below above =
      let e = turned key o (key y) (key x) Less (below zero y (omega arith) (omega arith)) in
      let rest = missing ys i (λ j d l k. below (suc j) d (omega (arith, l)) (omega (arith, k))) (λ j d l k. above (suc j) d (omega (arith, l)) (omega (arith, k))) in
      (way_behind y ys e ∙ rest.0, come_behind y ys e ∙ rest.1)

  -- none does where no one is of its key
  pub none-at : (xs : List A) (i : ℕ) → IsPartitionPoint (λ y. cmp (key y) (key x) ≡ Less) (λ y. cmp (key y) (key x) ≡ Greater) xs i → (way xs ≡ []) × (come xs ≡ x ∷ [])
  none-at xs i p = missing xs i (λ j d l k. p.0 j d (omega arith) k) p.1

  -- parts of a list that are all below, or all above
  way_high : (zs : List A) → AllAbove key o (key x) zs → (way zs ≡ []) × (come zs ≡ x ∷ [])
  way_high [] a = (refl, refl)
  way_high (z ∷ zs) a =
      let e = turned key o (key z) (key x) Greater a.0 in
      (way_ahead z zs e, come_ahead z zs e)

  front_at : (r : Ordering) (y : A) (ys zs : List A) → cmp (key x) (key y) ≡ r → (way (ys ++ zs) ≡ way ys) × (come (ys ++ zs) ≡ come ys)
      → (way (y ∷ ys ++ zs) ≡ way (y ∷ ys)) × (come (y ∷ ys ++ zs) ≡ come (y ∷ ys))
  front_at Less y ys zs e h = (way_ahead y (ys ++ zs) e ∙ sym (way_ahead y ys e), come_ahead y (ys ++ zs) e ∙ sym (come_ahead y ys e))
  front_at Equal y ys zs e h = (way_level y (ys ++ zs) e ∙ sym (way_level y ys e), come_level y (ys ++ zs) e ∙ sym (come_level y ys e))
  front_at Greater y ys zs e h = (way_behind y (ys ++ zs) e ∙ h.0 ∙ sym (way_behind y ys e), come_behind y (ys ++ zs) e ∙ h.1 ∙ sym (come_behind y ys e))

  front : (ys zs : List A) → AllAbove key o (key x) zs → (way (ys ++ zs) ≡ way ys) × (come (ys ++ zs) ≡ come ys)
  front [] zs a = way_high zs a
  front (y ∷ ys) zs a = front_at _ y ys zs refl (front ys zs a)

  back : (xs ys : List A) → AllBelow key o (key x) xs → (way (xs ++ ys) ≡ way ys) × (come (xs ++ ys) ≡ come ys)
  back [] ys a = (refl, refl)
  back (w ∷ xs) ys a =
      let e = turned key o (key w) (key x) Less a.0 in
      let rest = back xs ys a.1 in
      (way_behind w (xs ++ ys) e ∙ rest.0, come_behind w (xs ++ ys) e ∙ rest.1)

  pub shift-part : (xs ys zs : List A) → AllBelow key o (key x) xs → AllAbove key o (key x) zs → (way (xs ++ (ys ++ zs)) ≡ way ys) × (come (xs ++ (ys ++ zs)) ≡ come ys)
  shift-part xs ys zs low high =
      let a = back xs (ys ++ zs) low in
      let b = front ys zs high in
      (a.0 ∙ b.0, a.1 ∙ b.1)

-- Those that fail a test that all of other keys pass.
module _ {A K : Type 0} (key : A → K) {cmp : K → K → Ordering} (o : IsTotalOrder cmp) (keep : A → Bool) (k : K)
    (others : (y : A) → is_eq (cmp (key y) k) ≡ false → keep y ≡ true) where
  abbrev out : List A → List A
  out = filter (λ y. not (keep y))

  passed : (y : A) (ys : List A) → keep y ≡ true → out (y ∷ ys) ≡ out ys
  passed y ys e = rw e refl

  failed : (b : Bool) (y : A) (ys : List A) → keep y ≡ b → out ys ≡ [] → out (y ∷ ys) ≡ cond b [] (y ∷ [])
  failed true y ys e h = rw e h
  failed false y ys e h = rw e (ap (λ t. y ∷ t) h)

  level_above : (j : K) (ys : List A) → cmp j k ≡ Equal → AllByRecursion (λ l. cmp j l ≡ Less) (map key ys) → out ys ≡ []
  level_above j [] e a = refl
  level_above j (y ∷ ys) e a =
      let below : cmp k (key y) ≡ Less = sym (o.congr j k (key y) e) ∙ a.0 in
      passed y ys (others y (ap is_eq (turned key o k (key y) Less below))) ∙ level_above j ys e a.1

  -- the one of the key goes where it fails
  pub gone-at : (b : Bool) (xs : List A) (i : ℕ) (d : A) → IsStrictlySortedBy cmp (map key xs) → i < length xs → cmp (key (get_or xs i d)) k ≡ Equal
      → keep (get_or xs i d) ≡ b → out xs ≡ cond b [] (get_or xs i d ∷ [])
  unfolding IsStrictlySortedBy
  gone-at b [] i d s h e f = absurd (omega (arith, h))
  gone-at b (y ∷ ys) zero d s h e f = failed b y ys f (level_above (key y) ys e s.0)
  gone-at b (y ∷ ys) (suc i) d s h e f =
      let low : i < length ys = omega (arith, h) in
      let z = get_or ys i d in
      let greater : cmp k (key y) ≡ Greater = sym (o.congr (key z) k (key y) e) ∙ turned key o (key y) (key z) Less (below_at key o (key y) ys i d s.0 low) in
      passed y ys (others y (ap is_eq (turned key o k (key y) Greater greater))) ∙ gone-at b ys i d s.1 low e f

  all_pass : (xs : List A) → ((i : ℕ) (d : A) → i < length xs → is_eq (cmp (key (get_or xs i d)) k) ≡ false) → out xs ≡ []
  all_pass [] h = refl
  all_pass (x ∷ xs) h = passed x xs (others x (h zero x (omega arith))) ∙ all_pass xs (λ i d l. h (suc i) d (omega (arith, l)))

  out_high : (zs : List A) → AllAbove key o k zs → out zs ≡ []
  out_high [] a = refl
  out_high (z ∷ zs) a = passed z zs (others z (ap is_eq a.0)) ∙ out_high zs a.1

  out_at : (b : Bool) (y : A) (ys zs : List A) → out (ys ++ zs) ≡ out ys → cond b (y ∷ out (ys ++ zs)) (out (ys ++ zs)) ≡ cond b (y ∷ out ys) (out ys)
  out_at true y ys zs h = ap (λ t. y ∷ t) h
  out_at false y ys zs h = h

  out_front : (ys zs : List A) → AllAbove key o k zs → out (ys ++ zs) ≡ out ys
  out_front [] zs a = out_high zs a
  out_front (y ∷ ys) zs a = out_at (not (keep y)) y ys zs (out_front ys zs a)

  pub gone-part : (xs ys zs : List A) → AllBelow key o k xs → AllAbove key o k zs → out (xs ++ (ys ++ zs)) ≡ out ys
  gone-part [] ys zs low high = out_front ys zs high
  gone-part (w ∷ xs) ys zs low high = passed w (xs ++ (ys ++ zs)) (others w (ap is_eq low.0)) ∙ gone-part xs ys zs low.1 high

  -- none goes where no one is of the key
  pub gone-missing : (xs : List A) (i : ℕ) → IsPartitionPoint (λ y. cmp (key y) k ≡ Less) (λ y. cmp (key y) k ≡ Greater) xs i → out xs ≡ []
  gone-missing xs i p = all_pass xs (λ j d l. elim (cases_lt j i) [
    | inl low ↦ ap is_eq (p.0 j d (omega arith) low)
    | inr high ↦ ap is_eq (p.1 j d high l)
  ])
