-- What a search in a list finds by two neighbours, without a look at the rest.
use Rattle.std.specs.Prelude.{ℕ, ◌-◌, ◌<◌, ◌≤◌, List, length, get_or, Err}
use Rattle.std.proofs.Common.{◌≡◌, refl, ap, arith}
use Rattle.std.specs.List.{HoldsAt}
use Rattle.std.specs.List.Sorted.{IsBinarySearchResult}
use Rattle.std.specs.Ordering.{ordering_index}
use Rattle.std.specs.declared.cmp.Ordering.{Ordering}
use Rattle.std.specs.declared.cmp.Ordering.TheVariants.{Less, Equal, Greater}

is_least : (r : Ordering) → ordering_index r ≤ 0 → r ≡ Less
is_least Less h = refl
is_least Equal h = absurd (omega (arith, h))
is_least Greater h = absurd (omega (arith, h))

is_greatest : (r : Ordering) → 2 ≤ ordering_index r → r ≡ Greater
is_greatest Less h = absurd (omega (arith, h))
is_greatest Equal h = absurd (omega (arith, h))
is_greatest Greater h = refl

module _ {A : Type 0} (ord : A → Ordering) where
  -- behind one that is below and before one that is above, what is searched belongs
  pub between : (xs : List A) (i : ℕ) → i ≤ length xs → (0 < i → HoldsAt (λ y. ord y ≡ Less) xs (i - 1)) → (i < length xs → HoldsAt (λ y. ord y ≡ Greater) xs i)
      → IsBinarySearchResult ord xs (Err i)
  between xs i h low high = λ up. (
    λ k d l m.
        let level : ordering_index (ord (get_or xs (i - 1) d)) ≡ 0 = ap ordering_index (low (omega (arith, m)) d) in
        is_least (ord (get_or xs k d)) (omega (arith, level, up k (i - 1) d (omega (arith, m)) (omega (arith, m, h)))),
    λ k d l m.
        let level : ordering_index (ord (get_or xs i d)) ≡ 2 = ap ordering_index (high (omega (arith, l, m)) d) in
        is_greatest (ord (get_or xs k d)) (omega (arith, level, up i k d l m)),
  )
