-- Lists of entries of testing.
use Rattle.std.proofs.Common.{◌≡◌, ◌<◌, ◌+◌, ℕ, List, [], ◌∷◌, ◌++◌, map, take, length, get_or, set, Option, Some, refl, sym, ap, subst, ◌∙◌, arith}
use Rattle.std.specs.List.{AllByRecursion, swap}
use Rattle.std.specs.List.Sorted.{IsPermutation}
use Rattle.std.proofs.lemmas.List.Sorted.{IsPermutation-refl, IsPermutation-swap, IsPermutation-trans, IsPermutation-keeps}
use Rattle.testing_rules_items.proofs.Each.{each-append}
use Rattle.std.proofs.lemmas.List.{map-append, take_more, length-map, map-set, get_or-map}
use Rattle.testing_rules_model.specs.Suite.{Suite}
use Rattle.testing_rules_model.specs.declared.suite.SourceIn.{SourceIn}
use Rattle.testing_rules_model.specs.declared.suite.RowIn.{RowIn}

pub suite_of : (t : Suite) (sources : List SourceIn) (rows : List RowIn) → t.sources ≡ sources → t.rows ≡ rows → t ≡ record { sources = sources; rows = rows }
suite_of t sources rows p q = λ i. record { sources = p i; rows = q i }

-- one row more that reads
pub read_more : {A B : Type 0} (read : A → Option B) (rows : List A) (i : ℕ) (row : A) (x : B) (xs ys : List B) → i < length rows → row ≡ get_or rows i row → map read (take i rows) ≡ map Some xs → read row ≡ Some x → ys ≡ xs ++ x ∷ []
    → map read (take (i + 1) rows) ≡ map Some ys
read_more read rows i row x xs ys within is so_far said pushed =
    ap (map read) (take_more rows i row within)
    ∙ map-append read (take i rows) (get_or rows i row ∷ [])
    ∙ ap (λ l. l ++ read (get_or rows i row) ∷ []) so_far
    ∙ ap (λ o. map Some xs ++ o ∷ []) (ap read (sym is) ∙ said)
    ∙ sym (map-append Some xs (x ∷ []))
    ∙ ap (map Some) (sym pushed)

-- one more of which it holds
pub each_pushed : {X : Type 0} (P : X → Type 0) (xs ys : List X) (x : X) → ys ≡ xs ++ x ∷ [] → AllByRecursion P xs → P x → AllByRecursion P ys
each_pushed P xs ys x pushed each one = subst (AllByRecursion P) (sym pushed) (each-append P xs (x ∷ []) each (one, tt))

-- ---- another order

map-swap : {A B : Type 0} (f : A → B) (xs : List A) (i j : ℕ) → i < length xs → j < length xs → map f (swap xs i j) ≡ swap (map f xs) i j
map-swap f [] i j p q = refl
map-swap f (x ∷ xs) i j p q =
    let l = x ∷ xs in
    map-set f (set l i (get_or l j x)) j (get_or l i x)
    ∙ (λ t. set ((map-set f l i (get_or l j x) ∙ ap (set (map f l) i) (sym (get_or-map f l j x (f x) q))) t) j (sym (get_or-map f l i x (f x) p) t))

-- what was read of some rows, in another order, is what is read of the rows in another order
pub record Reordered {A B : Type 0} (read : A → Option B) (shown : List A) (ys : List B) : Type 0 where
  pub rows : List A
  pub same : IsPermutation shown rows
  pub reads : map read rows ≡ map Some ys

pub reordered : {A B : Type 0} (read : A → Option B) (rows : List A) (xs ys : List B) → map read rows ≡ map Some xs → IsPermutation xs ys → Reordered read rows ys
reordered read rows xs ys reads moved =
    IsPermutation-keeps xs (λ l. Reordered read rows l) (record { rows = rows; same = IsPermutation-refl rows; reads = reads })
    (λ l i j p q h. more read rows l i j p q h) ys moved
  where
    more : {A B : Type 0} (read : A → Option B) (rows : List A) (l : List B) (i j : ℕ) → i < length l → j < length l → Reordered read rows l → Reordered read rows (swap l i j)
    more read rows l i j p q h =
        let long : length h.rows ≡ length l = sym (length-map h.rows read) ∙ ap length h.reads ∙ length-map l Some in
        let a : i < length h.rows = omega arith in
        let b : j < length h.rows = omega arith in
        record {
          rows = swap h.rows i j;
          same = IsPermutation-trans rows h.rows (swap h.rows i j) h.same (IsPermutation-swap h.rows (swap h.rows i j) i j a b refl);
          reads = map-swap read h.rows i j a b ∙ ap (λ k. swap k i j) h.reads ∙ sym (map-swap Some l i j p q);
        }
