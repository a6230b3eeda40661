-- Lists seen through a function of their elements.
use Rattle.std.specs.Prelude.{ℕ, suc, ◌-◌, ◌<◌, ◌≤◌, true, Some, option_map, List, [], ◌∷◌, ◌++◌, length, take, drop, get_or, map, Result, Ok, Err}
use Rattle.std.proofs.Common.{◌≡◌, refl, sym, ap, ◌∙◌, subst, arith}
use Rattle.std.specs.List.{insert, remove, slice_get}
use Rattle.std.specs.List.Sorted.{IsBinarySearchResult, IsSearchInRange}
use Rattle.std.specs.declared.cmp.Ordering.{Ordering}
use Rattle.std.specs.declared.cmp.Ordering.TheVariants.{Less, Equal, Greater}
use Rattle.std.specs.Ordering.{is_lt, ordering_index}
use Rattle.std.proofs.lemmas.Option.{slice_get-map, get_or_from_slice_get}
use Rattle.std.proofs.lemmas.List.{map-append, get_or-map, length-map, take-map, drop-map}

module _ {A B : Type 0} (f : A → B) where
  -- one that is put in
  pub mapped-insert : (xs : List A) (i : ℕ) (x : A) → map f (insert xs i x) ≡ insert (map f xs) i (f x)
  mapped-insert xs i x =
      map-append f (take i xs) (x ∷ drop i xs)
      ∙ ap (λ t. t ++ f x ∷ map f (drop i xs)) (sym (take-map f i xs))
      ∙ ap (λ t. take i (map f xs) ++ f x ∷ t) (sym (drop-map f i xs))

  -- one that is taken out
  pub mapped-remove : (xs : List A) (i : ℕ) → map f (remove xs i) ≡ remove (map f xs) i
  mapped-remove xs i =
      map-append f (take i xs) (drop (suc i) xs)
      ∙ ap (λ t. t ++ map f (drop (suc i) xs)) (sym (take-map f i xs))
      ∙ ap (λ t. take i (map f xs) ++ t) (sym (drop-map f (suc i) xs))

  held_at : (P : B → Type 0) (xs : List A) (i : ℕ) (e : B) → i < length xs → ((d : A) → P (f (get_or xs i d))) → P (get_or (map f xs) i e)
  held_at P [] i e h g = absurd (omega (arith, h))
  held_at P (x ∷ xs) i e h g = subst P (sym (get_or-map f (x ∷ xs) i x e h)) (g x)

  -- a binary search of the list is one of what is seen
  pub mapped-found : (ord : B → Ordering) (xs : List A) (r : Result ℕ ℕ) → IsSearchInRange r (length xs)
      → IsBinarySearchResult (λ x. ord (f x)) xs r → IsBinarySearchResult ord (map f xs) r
  mapped-found ord xs (Ok i) h g = λ e. held_at (λ y. ord y ≡ Equal) xs i e h g
  mapped-found ord xs (Err i) h g = λ up.
      let parts = g (λ j k d l m. omega (
        arith,
        up j k (f d) l (omega (arith, length-map xs f)),
        ap (λ y. ordering_index (ord y)) (get_or-map f xs j d (f d) (omega arith)),
        ap (λ y. ordering_index (ord y)) (get_or-map f xs k d (f d) m),
      )) in (
        λ j e l m. held_at (λ y. ord y ≡ Less) xs j e (omega arith) (λ d. parts.0 j d l m),
        λ j e l m. held_at (λ y. ord y ≡ Greater) xs j e (omega (arith, length-map xs f)) (λ d. parts.1 j d l (omega (arith, length-map xs f))),
      )

  pub mapped-bound : (xs : List A) (r : Result ℕ ℕ) → IsSearchInRange r (length xs) → IsSearchInRange r (length (map f xs))
  mapped-bound xs r h = subst (IsSearchInRange r) (sym (length-map xs f)) h

  -- where the last element is below, so are all, and what is searched belongs behind them
  pub mapped-last : (ord : B → Ordering) (xs : List A) (x : A) → slice_get xs (length xs - 1) ≡ Some x → is_lt (ord (f x)) ≡ true → IsBinarySearchResult ord (map f xs) (Err (length (map f xs)))
  mapped-last ord xs x at low = λ up. (
    λ j d l m.
        let last = length xs - 1 in
        let here : get_or (map f xs) last d ≡ f x = get_or_from_slice_get (map f xs) last (f x) d (slice_get-map f xs last ∙ ap (option_map f) at) in
        let under : last < length (map f xs) = omega (arith, m, length-map xs f) in
        let most : ordering_index (ord (get_or (map f xs) last d)) ≡ 0 = ap (λ y. ordering_index (ord y)) here ∙ ap ordering_index (is_less (ord (f x)) low) in
        is_least (ord (get_or (map f xs) j d)) (omega (arith, most, up j last d (omega (arith, m, length-map xs f)) under)),
    λ j d l m. absurd (omega (arith, l, m)),
  )
    where
      is_less : (r : Ordering) → is_lt r ≡ true → r ≡ Less
      is_less Less h = refl
      is_less Equal h = let never : ⊥ = cc in absurd never
      is_less Greater h = let never : ⊥ = cc in absurd never

      is_least : (r : Ordering) → ordering_index r ≤ 0 → r ≡ Less
      is_least Less h = refl
      is_least Equal h = absurd (omega (arith, h))
      is_least Greater h = absurd (omega (arith, h))
