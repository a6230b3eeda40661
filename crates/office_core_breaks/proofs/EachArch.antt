-- A text for each architecture, and for one more.
use Rattle.std.proofs.Common.{◌≡◌, ℕ, ◌+◌, List, [], ◌∷◌, ◌++◌, append-nil, ap, ◌∙◌, arith}
use Rattle.std.proofs.lemmas.List.Concat.{flat_map-append}
use Rattle.std.specs.List.{flat_map, range_with_len}
use Rattle.testing_rules_refusals.proofs.Numbering.{numbers_more}

pub each_arch : (f : ℕ → List ℕ) (n : ℕ) → flat_map f (range_with_len 0 (n + 1)) ≡ flat_map f (range_with_len 0 n) ++ f n
each_arch f n =
    let on : 0 + n ≡ n = omega arith in
    ap (flat_map f) (numbers_more 0 n n on) ∙ flat_map-append f (range_with_len 0 n) (n ∷ []) ∙ ap (λ x. flat_map f (range_with_len 0 n) ++ x) (append-nil (f n))
