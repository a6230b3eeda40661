-- The step of a loop over the places of architectures.
use Rattle.std.specs.Prelude.{ℕ, zero, suc, ◌+◌, Bool, true, false, [], ◌∷◌, ◌++◌, map, filter}
use Rattle.std.proofs.Common.{◌≡◌, refl, ap, ◌∙◌, arith}
use Rattle.std.proofs.lemmas.List.{map-append}
use Rattle.std.proofs.lemmas.List.Elements.{filter-append}
use Rattle.std.specs.List.{range_with_len}
use Rattle.testing_rules_items.specs.Words.{only_if}

range-push : (a n : ℕ) → range_with_len a (suc n) ≡ range_with_len a n ++ (a + n) ∷ []
range-push a zero = ap (λ k. k ∷ []) (let e : a ≡ a + 0 = omega arith in e)
range-push a (suc n) = ap (λ ks. a ∷ ks) (range-push (a + 1) n ∙ ap (λ k. range_with_len (a + 1) n ++ k ∷ []) (let e : (a + 1) + n ≡ a + suc n = omega arith in e))

one : {A : Type 0} (p : ℕ → Bool) (f : ℕ → A) (k : ℕ) (b : Bool) → p k ≡ b → map f (filter p (k ∷ [])) ≡ only_if b (f k)
one p f k true e = rw e refl
one p f k false e = rw e refl

range-more : (n : ℕ) → range_with_len 0 (n + 1) ≡ range_with_len 0 n ++ n ∷ []
range-more n =
    let next : n + 1 ≡ suc n = omega arith in
    let last : 0 + n ≡ n = omega arith in
    ap (range_with_len 0) next ∙ range-push 0 n ∙ ap (λ k. range_with_len 0 n ++ k ∷ []) last

-- what passes a test below one more number
pub passing-more : {A : Type 0} (p : ℕ → Bool) (f : ℕ → A) (n : ℕ) → map f (filter p (range_with_len 0 (n + 1))) ≡ map f (filter p (range_with_len 0 n)) ++ only_if (p n) (f n)
passing-more p f n =
    ap (λ ks. map f (filter p ks)) (range-more n)
    ∙ ap (map f) (filter-append p (range_with_len 0 n) (n ∷ []))
    ∙ map-append f (filter p (range_with_len 0 n)) (filter p (n ∷ []))
    ∙ ap (λ t. map f (filter p (range_with_len 0 n)) ++ t) (one p f n _ refl)
