-- Testing stays in order: what is put in has its place, and what is left out leaves the order of the others.
use Rattle.std.specs.Prelude.{ℕ, Bool, true, false, cond, List, [], ◌∷◌, map, filter, fold}
use Rattle.std.specs.List.{AllByRecursion}
use Rattle.std.specs.List.Sorted.{IsStrictlySortedBy}
use Rattle.std.specs.Cmp.{IsTotalOrder}
use Rattle.std.specs.declared.cmp.Ordering.{Ordering}
use Rattle.std.specs.declared.cmp.Ordering.TheVariants.{Less, Equal, Greater}
use Rattle.std.proofs.Common.{◌≡◌, refl, sym, ap, subst}
use Rattle.std.proofs.lemmas.Cmp.{on_total, then_total, nat_cmp_total}
use Rattle.testing_rules_model.specs.declared.suite.SourceIn.{SourceIn}
use Rattle.testing_rules_model.specs.declared.suite.RowIn.{RowIn}
use Rattle.testing_rules_items.specs.Words.{Text, byte_cmp, put_by}
use Rattle.testing_rules_model.specs.Moves.{row_cmp, row_key, put_source, put_row}
use Rattle.testing_rules_model.specs.InOrder.{AreByName, AreByKey}
use Rattle.testing_rules_model.proofs.Orders.{text_order}
use Rattle.testing_rules_model.proofs.Picks.{rises-put}

row_order : IsTotalOrder row_cmp
row_order = then_total (on_total (λ (p : ℕ × Text). p.0) nat_cmp_total) (on_total (λ (p : ℕ × Text). p.1) text_order)

module _ {A K : Type 0} (key : A → K) (cmp : K → K → Ordering) where
  keys-put_at : (r : Ordering) (x y : A) (ys : List A) → cmp (key x) (key y) ≡ r
      → map key (put_by key cmp x ys) ≡ put_by (λ k. k) cmp (key x) (map key ys)
      → map key (put_by key cmp x (y ∷ ys)) ≡ put_by (λ k. k) cmp (key x) (map key (y ∷ ys))
  keys-put_at Less x y ys e h = rw (put_by, e) refl
  keys-put_at Equal x y ys e h = rw (put_by, e) refl
  keys-put_at Greater x y ys e h = rw (put_by, e) (ap (λ ks. key y ∷ ks) h)

  -- the keys with one element more
  keys-put : (x : A) (ys : List A) → map key (put_by key cmp x ys) ≡ put_by (λ k. k) cmp (key x) (map key ys)
  keys-put x [] = refl
  keys-put x (y ∷ ys) = keys-put_at _ x y ys refl (keys-put x ys)

  -- one more leaves the order of the others
  pub sorted-put : IsTotalOrder cmp → (x : A) (xs : List A) → IsStrictlySortedBy cmp (map key xs) → IsStrictlySortedBy cmp (map key (put_by key cmp x xs))
  unfolding IsStrictlySortedBy
  sorted-put o x xs h = subst (IsStrictlySortedBy cmp) (sym (keys-put x xs)) (rises-put o (key x) (map key xs) h)

  module _ (test : A → Bool) where
    all-kept_at : (P : K → Type 0) (b : Bool) (x : A) (xs : List A) → P (key x) → AllByRecursion P (map key (filter test xs))
        → AllByRecursion P (map key (cond b (x ∷ filter test xs) (filter test xs)))
    all-kept_at P true x xs p h = (p, h)
    all-kept_at P false x xs p h = h

    all-kept : (P : K → Type 0) (xs : List A) → AllByRecursion P (map key xs) → AllByRecursion P (map key (filter test xs))
    all-kept P [] h = tt
    all-kept P (x ∷ xs) h = all-kept_at P (test x) x xs h.0 (all-kept P xs h.1)

    sorted-kept_at : (b : Bool) (x : A) (xs : List A) → AllByRecursion (λ k. cmp (key x) k ≡ Less) (map key xs) → IsStrictlySortedBy cmp (map key (filter test xs))
        → IsStrictlySortedBy cmp (map key (cond b (x ∷ filter test xs) (filter test xs)))
    unfolding IsStrictlySortedBy
    sorted-kept_at true x xs p h = (all-kept (λ k. cmp (key x) k ≡ Less) xs p, h)
    sorted-kept_at false x xs p h = h

    pub sorted-kept : (xs : List A) → IsStrictlySortedBy cmp (map key xs) → IsStrictlySortedBy cmp (map key (filter test xs))
    unfolding IsStrictlySortedBy
    sorted-kept [] h = tt
    sorted-kept (x ∷ xs) h = sorted-kept_at (test x) x xs h.0 (sorted-kept xs h.1)

-- sources with one put in, with several, and those that pass a test
pub by_name-put : (x : SourceIn) (xs : List SourceIn) → AreByName xs → AreByName (put_source x xs)
by_name-put = sorted-put (λ (s : SourceIn). s.name) byte_cmp text_order

pub by_name-put_all : {A : Type 0} (entry : A → SourceIn) (us : List A) (xs : List SourceIn) → AreByName xs → AreByName (fold (λ ys u. put_source (entry u) ys) xs us)
by_name-put_all entry [] xs h = h
by_name-put_all entry (u ∷ us) xs h = by_name-put_all entry us (put_source (entry u) xs) (by_name-put (entry u) xs h)

pub by_name-kept : (test : SourceIn → Bool) (xs : List SourceIn) → AreByName xs → AreByName (filter test xs)
by_name-kept = sorted-kept (λ (s : SourceIn). s.name) byte_cmp

-- rows alike
pub by_key-put : (x : RowIn) (xs : List RowIn) → AreByKey xs → AreByKey (put_row x xs)
by_key-put = sorted-put row_key row_cmp row_order

pub by_key-put_all : (rs xs : List RowIn) → AreByKey xs → AreByKey (fold (λ ys r. put_row r ys) xs rs)
by_key-put_all [] xs h = h
by_key-put_all (r ∷ rs) xs h = by_key-put_all rs (put_row r xs) (by_key-put r xs h)

pub by_key-kept : (test : RowIn → Bool) (xs : List RowIn) → AreByKey xs → AreByKey (filter test xs)
by_key-kept = sorted-kept row_key row_cmp
