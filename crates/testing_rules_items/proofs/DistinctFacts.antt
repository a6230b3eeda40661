-- Texts of which none stands twice, one after the other.
use Rattle.std.proofs.Common.{◌≡◌, ℕ, ◌+◌, ◌-◌, ◌<◌, ◌≤◌, Bool, true, false, not, ◌&&◌, List, length, take, drop, get_or, sym, ap, ◌∙◌}
use Rattle.std.specs.List.{list_any}
use Rattle.std.specs.Str.{bytes_eq}
use Rattle.std.specs.Borrow.{Bor}
use Rattle.std.proofs.lemmas.List.{drop_more, drop_all, length-drop}
use Rattle.std.proofs.Math.Seq.{take-length}
use Rattle.testing_rules_items.specs.Distinct.{is_distinct}
use Rattle.deb_control.proofs.Each.{texts, nowhere}

-- whether one stands again behind its place
abbrev again : List (Bor (List ℕ)) → ℕ → Bool
again xs i = list_any (bytes_eq (get_or xs i nowhere).now) (texts (take (length xs - (i + 1)) (drop (i + 1) xs)))

behind : (xs : List (Bor (List ℕ))) (i : ℕ) → take (length xs - i) (drop i xs) ≡ drop i xs
behind xs i = ap (λ n. take n (drop i xs)) (sym (length-drop i xs)) ∙ take-length (drop i xs)

cut : (xs : List (Bor (List ℕ))) (i : ℕ) → i < length xs → is_distinct (texts (drop i xs)) ≡ not (again xs i) && is_distinct (texts (drop (i + 1) xs))
unfolding is_distinct
cut xs i h =
    ap (λ ts. is_distinct (texts ts)) (drop_more xs i nowhere h)
    ∙ ap (λ ts. not (list_any (bytes_eq (get_or xs i nowhere).now) (texts ts)) && is_distinct (texts (drop (i + 1) xs))) (sym (behind xs (i + 1)))

pub distinct_step : (xs : List (Bor (List ℕ))) (i : ℕ) (b : Bool) → i < length xs → b ≡ again xs i → b ≡ false → is_distinct (texts (drop i xs)) ≡ is_distinct (texts (drop (i + 1) xs))
distinct_step xs i b h e f = cut xs i h ∙ ap (λ b. not b && is_distinct (texts (drop (i + 1) xs))) (sym e ∙ f)

pub distinct_fails : (xs : List (Bor (List ℕ))) (i : ℕ) (b : Bool) → i < length xs → b ≡ again xs i → b ≡ true → is_distinct (texts (drop i xs)) ≡ false
distinct_fails xs i b h e f = cut xs i h ∙ ap (λ b. not b && is_distinct (texts (drop (i + 1) xs))) (sym e ∙ f)

pub distinct_ends : (xs : List (Bor (List ℕ))) (i : ℕ) → length xs ≤ i → is_distinct (texts (drop i xs)) ≡ true
unfolding is_distinct
distinct_ends xs i h = ap (λ ts. is_distinct (texts ts)) (drop_all i xs h)
