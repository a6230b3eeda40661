-- How many keys a map has.
use Rattle.std.proofs.Common.{◌≡◌, ◌≤◌, ◌+◌, ◌-◌, ℕ, zero, suc, List, [], ◌∷◌, length, Bool, true, false, cond, Option, Some, None, IsSome, is_some, refl, sym, ap, subst, ◌∙◌, arith}
use Rattle.std.proofs.lemmas.Cmp.{tied_itself}
use Rattle.std.specs.Cmp.{IsTotalOrder}
use Rattle.std.specs.declared.cmp.Ordering.{Ordering}
use Rattle.std.specs.declared.cmp.Ordering.TheVariants.{Less, Equal, Greater}
use Rattle.std.specs.Ordering.{eq_by_cmp, is_eq}
use Rattle.std.specs.FinMap.{FinMap, find, get, remove, len, entries, empty_of_len, get-empty, get-entries, get-remove, get_tied, len-entries, len-remove}

no_some : {X : Type 0} (o : Option X) → o ≡ None → IsSome o → ⊥
no_some (Some x) none there = absurd (let e = none in cc)
no_some None none there = absurd (let e = there in cc)

equal_is : (o : Ordering) → is_eq o ≡ true → o ≡ Equal
equal_is Less h = absurd (let e = h in cc)
equal_is Equal h = refl
equal_is Greater h = absurd (let e = h in cc)

module _ {K V : Type 0} {R : K → K → Ordering} (total : IsTotalOrder R) where
  -- a map that has a key has an entry
  pub some_len : (m : FinMap R V) (k : K) → IsSome (get m k) → 1 ≤ len m
  some_len m k there = go (len m) refl
    where
      go : (n : ℕ) → len m ≡ n → 1 ≤ len m
      go zero none = absurd (no_some (get m k) (ap (λ (x : FinMap R V). get x k) (empty_of_len m none) ∙ get-empty R k) there)
      go (suc n) is = omega (arith, is)

  -- without the key it has one entry less
  pub len_rest : (m : FinMap R V) (k : K) → IsSome (get m k) → len (remove m k) ≡ len m - 1
  len_rest m k there = len-remove total m k ∙ ap (λ b. cond b (len m - 1) (len m)) there

  -- and each other key as before
  pub rest_has : (m : FinMap R V) (k q : K) → eq_by_cmp R q k ≡ false → get (remove m k) q ≡ get m q
  rest_has m k q apart = get-remove total m k q ∙ ap (λ b. cond b None (get m q)) apart

  of_rest : (m : FinMap R V) (k q : K) → IsSome (get (remove m k) q) → (eq_by_cmp R q k ≡ false) × IsSome (get m q)
  of_rest m k q there = go (eq_by_cmp R q k) refl (subst IsSome (get-remove total m k q) there)
    where
      go : (b : Bool) → eq_by_cmp R q k ≡ b → IsSome (cond b None (get m q)) → (eq_by_cmp R q k ≡ false) × IsSome (get m q)
      go true is h = absurd (let e = h in cc)
      go false is h = (is, h)

  first_key : (m : FinMap R V) (n : ℕ) → len m ≡ suc n → (k : K) × IsSome (get m k)
  first_key m n size = go (entries m) refl
    where
      go : (es : List (K × V)) → entries m ≡ es → (k : K) × IsSome (get m k)
      go [] none = let size_is = len-entries m in let nil = ap length none in absurd (omega (arith, size, size_is, nil))
      go (e ∷ es) is = (e.0, ap is_some (get-entries m e.0 ∙ ap (find R e.0) is ∙ ap (λ b. cond b (Some e.1) (find R e.0 es)) (ap is_eq (tied_itself total e.0))))

  len_within : (n : ℕ) (a b : FinMap R V) → len a ≡ n → ((q : K) → IsSome (get a q) → IsSome (get b q)) → n ≤ len b
  len_within zero a b size each = omega arith
  len_within (suc n) a b size each =
      let k = first_key a n size in
      let there = each k.0 k.1 in
      let more = some_len b k.0 there in
      let shorter = len_rest b k.0 there in
      let left = len_rest a k.0 k.1 in
      let rest = len_within n (remove a k.0) (remove b k.0) (omega (arith, left, size)) (λ q here.
      let old = of_rest a k.0 q here in
      subst IsSome (sym (rest_has b k.0 q old.0)) (each q old.1)) in
      omega (arith, rest, shorter, more)

  untied : (m : FinMap R V) (q p : K) → get m q ≡ None → IsSome (get m p) → eq_by_cmp R p q ≡ false
  untied m q p none here = go (eq_by_cmp R p q) refl
    where
      go : (b : Bool) → eq_by_cmp R p q ≡ b → eq_by_cmp R p q ≡ false
      go false is = is
      go true is = absurd (no_some (get m p) (sym (get_tied total m p q (equal_is (R p q) is)) ∙ none) here)

  -- a map has no fewer entries than one whose keys it has
  pub len_low : (a b : FinMap R V) → ((q : K) → IsSome (get a q) → IsSome (get b q)) → len a ≤ len b
  len_low a b each = len_within (len a) a b refl each

  -- and where it has no more, it has no other keys
  pub keys_same : (a b : FinMap R V) → ((q : K) → IsSome (get a q) → IsSome (get b q)) → len b ≤ len a → (q : K) → IsSome (get b q) → IsSome (get a q)
  keys_same a b each few q there = go (get a q) refl
    where
      go : (o : Option V) → get a q ≡ o → IsSome (get a q)
      go (Some v) is = ap is_some is
      go None none =
          let within = len_within (len a) a (remove b q) refl (λ p here. subst IsSome (sym (rest_has b q p (untied a q p none here))) (each p here)) in
          let one = some_len b q there in
          let less = len_rest b q there in
          absurd (omega (arith, within, few, one, less))
