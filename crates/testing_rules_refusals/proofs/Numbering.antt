-- Numbers from 1 on.
use Rattle.std.proofs.Common.{◌≡◌, ℕ, zero, suc, ◌+◌, [], ◌∷◌, ◌++◌, ap, ◌∙◌, arith}
use Rattle.std.specs.Prelude.{Option}
use Rattle.std.specs.List.{range_with_len, filter_map, cons_option}
use Rattle.std.proofs.lemmas.List.Elements.{filter_map-append}

one_last : (a n j : ℕ) → a + n ≡ j → range_with_len a (suc n) ≡ range_with_len a n ++ j ∷ []
one_last a zero j e = let same : a ≡ j = omega (arith, e) in ap (λ k. k ∷ []) same
one_last a (suc n) j e = ap (λ ks. a ∷ ks) (one_last (a + 1) n j (omega (arith, e)))

pub numbers_more : (a n j : ℕ) → a + n ≡ j → range_with_len a (n + 1) ≡ range_with_len a n ++ j ∷ []
numbers_more a n j e = let on : n + 1 ≡ suc n = omega arith in ap (range_with_len a) on ∙ one_last a n j e

-- what the numbers have, of one more
pub having_more : {A : Type 0} (f : ℕ → Option A) (a n j : ℕ) (o : Option A) → a + n ≡ j → f j ≡ o
    → filter_map f (range_with_len a (n + 1)) ≡ filter_map f (range_with_len a n) ++ cons_option o []
having_more f a n j o e h =
    ap (filter_map f) (numbers_more a n j e) ∙ filter_map-append f (range_with_len a n) (j ∷ []) ∙ ap (λ x. filter_map f (range_with_len a n) ++ cons_option x []) h
