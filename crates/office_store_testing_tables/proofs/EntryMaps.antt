-- Lists of entries and the maps that they make.
use Rattle.std.proofs.Common.{◌≡◌, ◌≤◌, ◌+◌, ◌⊎◌, inl, inr, ℕ, List, [], ◌∷◌, map, fold, length, Bool, true, false, cond, Option, Some, None, refl, sym, ap, ◌∙◌, arith, is_some}
use Rattle.std.proofs.lemmas.Cmp.{tied_itself}
use Rattle.std.specs.Cmp.{IsTotalOrder}
use Rattle.std.specs.declared.cmp.Ordering.{Ordering}
use Rattle.std.specs.declared.cmp.Ordering.TheVariants.{Less, Equal, Greater}
use Rattle.std.specs.Ordering.{eq_by_cmp, is_eq}
use Rattle.std.specs.FinMap.{FinMap, IsAntisymmetric, find, put, get, insert, empty, len, entries, from_entries, contains_key, get-from_entries, get-insert, get-empty, len-insert, entries-insert, same_map}
use Rattle.sqlite_rules.specs.Lists.{Has}
use Rattle.testing_rules_items.specs.Words.{put_by}
use Rattle.office_store_testing_tables.proofs.KeyedFacts.{tied}

same_key : {K : Type 0} {R : K → K → Ordering} → IsAntisymmetric R → (q k : K) → eq_by_cmp R q k ≡ true → q ≡ k
same_key {R = R} exact q k h = exact q k (tied (R q k) h)

own_key : {K : Type 0} {R : K → K → Ordering} → IsTotalOrder R → (k : K) → eq_by_cmp R k k ≡ true
own_key total k = ap is_eq (tied_itself total k)

no_more : (b : Bool) (n : ℕ) → cond b n (n + 1) ≤ n + 1
no_more true n = omega arith
no_more false n = omega arith

module _ {K V : Type 0} {R : K → K → Ordering} (total : IsTotalOrder R) (exact : IsAntisymmetric R) where
  -- the entries put into a map in turn, so that the last value of a key stands
  abbrev pub last_of : FinMap R V → List (K × V) → FinMap R V
  last_of m es = fold (λ n (e : K × V). insert n e.0 e.1) m es

  pub from_last : (m : FinMap R V) (es : List (K × V)) (q : K) (v : V) → get (last_of m es) q ≡ Some v → Has es (q, v) ⊎ (get m q ≡ Some v)
  from_last m [] q v h = inr h
  from_last m (e ∷ es) q v h = elim (from_last (insert m e.0 e.1) es q v h) [
    | inl there ↦ inl (inr there)
    | inr old ↦ at (eq_by_cmp R q e.0) refl (sym (get-insert total m e.0 e.1 q) ∙ old)
  ]
    where
      at : (b : Bool) → eq_by_cmp R q e.0 ≡ b → cond b (Some e.1) (get m q) ≡ Some v → Has (e ∷ es) (q, v) ⊎ (get m q ≡ Some v)
      at true is found = let same : e.1 ≡ v = cc in inl (inl (λ i. (same_key exact q e.0 is i, sym same i)))
      at false is found = inr found

  some_at : (b : Bool) (v : V) (o : Option V) → is_some o ≡ true → is_some (cond b (Some v) o) ≡ true
  some_at true v o h = refl
  some_at false v o h = h

  kept_last : (m : FinMap R V) (es : List (K × V)) (q : K) → is_some (get m q) ≡ true → is_some (get (last_of m es) q) ≡ true
  kept_last m [] q h = h
  kept_last m (e ∷ es) q h = kept_last (insert m e.0 e.1) es q (ap is_some (get-insert total m e.0 e.1 q) ∙ some_at (eq_by_cmp R q e.0) e.1 (get m q) h)

  pub has_last : (m : FinMap R V) (es : List (K × V)) (q : K) (v : V) → Has es (q, v) → is_some (get (last_of m es) q) ≡ true
  has_last m [] q v there = absurd there
  has_last m (e ∷ es) q v (inl is) =
      let own : eq_by_cmp R q e.0 ≡ true = ap (eq_by_cmp R q) (sym (ap (λ (x : K × V). x.0) is)) ∙ own_key total q in
      kept_last (insert m e.0 e.1) es q (ap is_some (get-insert total m e.0 e.1 q ∙ ap (λ b. cond b (Some e.1) (get m q)) own))
  has_last m (e ∷ es) q v (inr there) = has_last (insert m e.0 e.1) es q v there

  -- ---- a map with as many entries as there were

  at_most : (m : FinMap R V) (es : List (K × V)) → len (last_of m es) ≤ len m + length es
  at_most m [] = omega arith
  at_most m (e ∷ es) = omega (arith, at_most (insert m e.0 e.1) es, len-insert total m e.0 e.1, no_more (contains_key m e.0) (len m))

  abbrev pub IsFull : FinMap R V → List (K × V) → Type 0
  IsFull m es = len (last_of m es) ≡ len m + length es

  full_step : (m : FinMap R V) (e : K × V) (es : List (K × V)) → IsFull m (e ∷ es) → (contains_key m e.0 ≡ false) × IsFull (insert m e.0 e.1) es
  full_step m e es full = go (contains_key m e.0) refl
    where
      go : (b : Bool) → contains_key m e.0 ≡ b → (contains_key m e.0 ≡ false) × (len (last_of (insert m e.0 e.1) es) ≡ len (insert m e.0 e.1) + length es)
      go true is =
          let grown : len (insert m e.0 e.1) ≡ len m = len-insert total m e.0 e.1 ∙ ap (λ b. cond b (len m) (len m + 1)) is in
          absurd (omega (arith, full, grown, at_most (insert m e.0 e.1) es))
      go false is =
          let grown : len (insert m e.0 e.1) ≡ len m + 1 = len-insert total m e.0 e.1 ∙ ap (λ b. cond b (len m) (len m + 1)) is in
          (is, omega (arith, full, grown))

  not_some : (o : Option V) → is_some o ≡ false → o ≡ None
  not_some None h = refl
  not_some (Some v) h = absurd (let e = h in cc)

  none_under : (b : Bool) (v : V) (o : Option V) → cond b (Some v) o ≡ None → o ≡ None
  none_under true v o h = absurd (let e = h in cc)
  none_under false v o h = h

  new_keys : (m : FinMap R V) (es : List (K × V)) (q : K) (v : V) → IsFull m es → Has es (q, v) → get m q ≡ None
  new_keys m [] q v full there = absurd there
  new_keys m (e ∷ es) q v full (inl is) =
      let step = full_step m e es full in
      ap (get m) (ap (λ (x : K × V). x.0) is) ∙ not_some (get m e.0) step.0
  new_keys m (e ∷ es) q v full (inr there) =
      let step = full_step m e es full in
      none_under (eq_by_cmp R q e.0) e.1 (get m q) (sym (get-insert total m e.0 e.1 q) ∙ new_keys (insert m e.0 e.1) es q v step.1 there)

  held_there : (m : FinMap R V) (e : K × V) (q : K) (v : V) → ◌≡◌ {A = K × V} (q, v) e → get (insert m e.0 e.1) q ≡ None → ⊥
  held_there m e q v is none =
      let own : eq_by_cmp R q e.0 ≡ true = ap (eq_by_cmp R q) (sym (ap (λ (x : K × V). x.0) is)) ∙ own_key total q in
      let some : Some e.1 ≡ None = sym (get-insert total m e.0 e.1 q ∙ ap (λ b. cond b (Some e.1) (get m q)) own) ∙ none in
      cc

  -- each key stands for one value
  pub one_value : (m : FinMap R V) (es : List (K × V)) → IsFull m es → (q : K) (v w : V) → Has es (q, v) → Has es (q, w) → v ≡ w
  one_value m [] full q v w there more = absurd there
  one_value m (e ∷ es) full q v w (inl a) (inl b) = ap (λ (x : K × V). x.1) (a ∙ sym b)
  one_value m (e ∷ es) full q v w (inl a) (inr b) = absurd (held_there m e q v a (new_keys (insert m e.0 e.1) es q w (full_step m e es full).1 b))
  one_value m (e ∷ es) full q v w (inr a) (inl b) = absurd (held_there m e q w b (new_keys (insert m e.0 e.1) es q v (full_step m e es full).1 a))
  one_value m (e ∷ es) full q v w (inr a) (inr b) = one_value (insert m e.0 e.1) es (full_step m e es full).1 q v w a b

  -- ---- the map whose first value of a key stands

  pub from_first : (es : List (K × V)) (q : K) (v : V) → find R q es ≡ Some v → Has es (q, v)
  from_first [] q v h = absurd (let e = h in cc)
  from_first (e ∷ es) q v h = at (eq_by_cmp R q e.0) refl (from_first es q v) h
    where
      at : (b : Bool) → eq_by_cmp R q e.0 ≡ b → (find R q es ≡ Some v → Has es (q, v)) → cond b (Some e.1) (find R q es) ≡ Some v → Has (e ∷ es) (q, v)
      at true is later found = let same : e.1 ≡ v = cc in inl (λ i. (same_key exact q e.0 is i, sym same i))
      at false is later found = inr (later found)

  pub has_first : (es : List (K × V)) (q : K) (v : V) → Has es (q, v) → is_some (find R q es) ≡ true
  has_first [] q v there = absurd there
  has_first (e ∷ es) q v (inl is) =
      let own : eq_by_cmp R q e.0 ≡ true = ap (eq_by_cmp R q) (sym (ap (λ (x : K × V). x.0) is)) ∙ own_key total q in
      ap (λ b. is_some (cond b (Some e.1) (find R q es))) own
  has_first (e ∷ es) q v (inr there) = some_at (eq_by_cmp R q e.0) e.1 (find R q es) (has_first es q v there)

  -- ---- the two are one, where they are made of the same entries

  module _ (front back : List (K × V)) (there : (q : K) (v : V) → Has front (q, v) → Has back (q, v)) (here : (q : K) (v : V) → Has back (q, v) → Has front (q, v)) (one : (q : K) (v w : V) → Has front (q, v) → Has front (q, w) → v ≡ w) where
    same_at : (q : K) (a b : Option V) → get (last_of empty front) q ≡ a → find R q back ≡ b → a ≡ b
    same_at q None None p r = refl
    same_at q (Some v) (Some w) p r = ap Some (one q v w (front_has q v p) (here q w (from_first back q w r)))
      where
        front_has : (x : K) (y : V) → get (last_of empty front) x ≡ Some y → Has front (x, y)
        front_has x y h = elim (from_last empty front x y h) [ inl t ↦ t | inr old ↦ absurd (let e : Some y ≡ None = sym old ∙ get-empty R x in cc) ]
    same_at q (Some v) None p r = absurd (elim (from_last empty front q v p) [
      | inl t ↦ (let e = sym (has_first back q v (there q v t)) ∙ ap is_some r in cc)
      | inr old ↦ (let e : Some v ≡ None = sym old ∙ get-empty R q in cc)
    ])
    same_at q None (Some w) p r = absurd (let e = sym (has_last empty front q w (here q w (from_first back q w r))) ∙ ap is_some p in cc)

    pub last_is_first : last_of empty front ≡ from_entries {R = R} back
    last_is_first = same_map total exact (last_of empty front) (from_entries back) (λ q. same_at q (get (last_of empty front) q) (find R q back) refl refl ∙ sym (get-from_entries total back q))

  -- ---- lists that are put in order

  module _ {X : Type 0} (key : X → K) (val : X → V) where
    abbrev entry : X → K × V
    entry x = (key x, val x)

    put_at : (o : Ordering) (x y : X) (ys : List X) → R (key x) (key y) ≡ o → map entry (put_by key R x ys) ≡ put R (key x) (val x) (map entry ys) → map entry (put_by key R x (y ∷ ys)) ≡ put R (key x) (val x) (map entry (y ∷ ys))
    put_at Less x y ys is h = rw (put_by, put, is) refl
    put_at Equal x y ys is h = rw (put_by, put, is) (ap (λ k. (k, val x) ∷ map entry ys) (exact (key x) (key y) is))
    put_at Greater x y ys is h = rw (put_by, put, is) (ap (λ es. entry y ∷ es) h)

    pub put_entries : (x : X) (ys : List X) → map entry (put_by key R x ys) ≡ put R (key x) (val x) (map entry ys)
    put_entries x [] = refl
    put_entries x (y ∷ ys) = put_at (R (key x) (key y)) x y ys refl (put_entries x ys)

    pub put_all_entries : (xs ys : List X) (m : FinMap R V) → map entry ys ≡ entries m → map entry (fold (λ zs x. put_by key R x zs) ys xs) ≡ entries (last_of m (map entry xs))
    put_all_entries [] ys m is = is
    put_all_entries (x ∷ xs) ys m is = put_all_entries xs (put_by key R x ys) (insert m (key x) (val x)) (put_entries x ys ∙ ap (put R (key x) (val x)) is ∙ sym (entries-insert total m (key x) (val x)))
