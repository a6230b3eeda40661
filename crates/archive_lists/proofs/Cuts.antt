-- A text cut at the first of a character.
use Rattle.std.proofs.Common.{◌≡◌, ℕ, ◌+◌, ◌<◌, ◌==◌, ◌++◌, ◌∷◌, List, length, take, drop, sym, ap, subst, ◌∙◌, eqb-true}
use Rattle.std.specs.List.{position_or_len}
use Rattle.std.proofs.lemmas.List.Sums.{passes_at_first, split_at_first}

pub cut_whole : (c : ℕ) (xs : List ℕ) (n : ℕ) → n ≡ position_or_len (λ b. b == c) xs → n < length xs → xs ≡ take n xs ++ (c ∷ drop (n + 1) xs)
cut_whole c xs n at within =
    let p = λ (b : ℕ). b == c in
    let w : position_or_len p xs < length xs = subst (λ k. k < length xs) at within in
    let whole : xs ≡ take (position_or_len p xs) xs ++ (c ∷ drop (position_or_len p xs + 1) xs) =
    split_at_first p xs 0 w ∙ ap (λ y. take (position_or_len p xs) xs ++ (y ∷ drop (position_or_len p xs + 1) xs)) (eqb-true _ _ (passes_at_first p xs 0 w)) in
    subst (λ k. xs ≡ take k xs ++ (c ∷ drop (k + 1) xs)) (sym at) whole
