-- The first that passes a test, place by place.
use Rattle.std.proofs.Common.{◌≡◌, ℕ, zero, suc, ◌+◌, ◌<◌, Bool, true, false, cond, List, [], ◌∷◌, ◌++◌, length, take, get_or, find, Option, Some, None, refl, ap, ◌∙◌, arith}
use Rattle.std.proofs.lemmas.List.{take_more}

passed_over : {A : Type 0} (b : Bool) (x : A) (o : Option A) → cond b (Some x) o ≡ None → (b ≡ false) × (o ≡ None)
passed_over true x o e = let no : Some x ≡ None = e in cc
passed_over false x o e = (refl, e)

-- it is the first at a place before which none passes
pub find_here : {A : Type 0} (test : A → Bool) (xs : List A) (i : ℕ) (d : A) → i < length xs → find test (take i xs) ≡ None → test (get_or xs i d) ≡ true
    → find test xs ≡ Some (get_or xs i d)
find_here test [] i d h n t = absurd (omega (arith, h))
find_here test (x ∷ xs) zero d h n t = ap (λ b. cond b (Some x) (find test xs)) t
find_here test (x ∷ xs) (suc i) d h n t =
    let over = passed_over (test x) x (find test (take i xs)) n in
    ap (λ b. cond b (Some x) (find test xs)) over.0 ∙ find_here test xs i d (omega (arith, h)) over.1 t

none_last : {A : Type 0} (test : A → Bool) (xs : List A) (x : A) → find test xs ≡ None → test x ≡ false → find test (xs ++ x ∷ []) ≡ None
none_last test [] x n e = ap (λ b. cond b (Some x) None) e
none_last test (y ∷ xs) x n e =
    let over = passed_over (test y) y (find test xs) n in
    ap (λ b. cond b (Some y) (find test (xs ++ x ∷ []))) over.0 ∙ none_last test xs x over.1 e

pub none_more : {A : Type 0} (test : A → Bool) (xs : List A) (i : ℕ) (d : A) → i < length xs → find test (take i xs) ≡ None → test (get_or xs i d) ≡ false
    → find test (take (i + 1) xs) ≡ None
none_more test xs i d h n e = rw (take_more xs i d h) (none_last test (take i xs) (get_or xs i d) n e)
