use Rattle.std.proofs.Common.{◌≡◌, ℕ, zero, suc, ◌<◌, Bool, true, false, cond, filter, ◌⊎◌, List, [], ◌∷◌, length, get_or, sym, refl, ap, ◌∙◌, subst, inl, inr, arith}
use Rattle.std.proofs.lemmas.Bool.{false≢true}
use Rattle.std.specs.List.{All, Contains, flat_map}
use Rattle.std.proofs.lemmas.List.{get_or_default}
use Rattle.std.proofs.lemmas.List.Elements.{Contains-append_left, Contains-append_right, Contains-append_cases}

-- which numbers stand in a list

pub contains_first : (x : ℕ) (xs : List ℕ) → Contains (x ∷ xs) x
contains_first x xs = (0, omega arith, refl)

pub contains_later : (x y : ℕ) (xs : List ℕ) → Contains xs y → Contains (x ∷ xs) y
contains_later x y xs c = (suc c.0, omega (arith, c.1), c.2)

cons_at : (i x y : ℕ) (xs : List ℕ) → i < length (x ∷ xs) → get_or (x ∷ xs) i y ≡ y → (y ≡ x) ⊎ Contains xs y
cons_at zero x y xs h e = inl (sym e)
cons_at (suc i) x y xs h e = inr (i, omega (arith, h), e)

pub contains_cons : (x y : ℕ) (xs : List ℕ) → Contains (x ∷ xs) y → (y ≡ x) ⊎ Contains xs y
contains_cons x y xs c = cons_at c.0 x y xs c.1 c.2

pub contains_none : (y : ℕ) → Contains [] y → ⊥
contains_none y c = absurd (omega (arith, c.1))

-- what holds of each element holds at each place, and the other way round

pub all_from_members : (n : ℕ) (xs : List ℕ) → ((k : ℕ) → Contains xs k → k < n) → All (λ k. k < n) xs
all_from_members n xs h i d l = h (get_or xs i d) (i, l, get_or_default xs i (get_or xs i d) d l)

pub members_from_all : (n : ℕ) (xs : List ℕ) → All (λ k. k < n) xs → (k : ℕ) → Contains xs k → k < n
members_from_all n xs all k c = omega (arith, all c.0 k c.1, c.2)

-- what one of the parts has, the whole has
pub contains_part : {X : Type 0} (f : X → List ℕ) (xs : List X) (j : ℕ) (d : X) (k : ℕ) → j < length xs → Contains (f (get_or xs j d)) k → Contains (flat_map f xs) k
contains_part f [] j d k h c = absurd (omega arith)
contains_part f (x ∷ xs) zero d k h c = Contains-append_left (f x) (flat_map f xs) k c
contains_part f (x ∷ xs) (suc j) d k h c = Contains-append_right (f x) (flat_map f xs) k (contains_part f xs j d k (omega arith) c)

-- what the whole has, one of the parts has
pub part_contains : {X : Type 0} (P : ℕ → Type 0) (f : X → List ℕ) (xs : List X) → ((x : X) (k : ℕ) → Contains (f x) k → P k) → (k : ℕ) → Contains (flat_map f xs) k → P k
part_contains P f [] h k c = absurd (contains_none k c)
part_contains P f (x ∷ xs) h k c = elim (Contains-append_cases (f x) (flat_map f xs) k c) [
  | inl here ↦ h x k here
  | inr later ↦ part_contains P f xs h k later
]

-- what passes of a list

here_passing : (b : Bool) (x : ℕ) (ys : List ℕ) → b ≡ true → Contains (cond b (x ∷ ys) ys) x
here_passing true x ys h = contains_first x ys
here_passing false x ys h = absurd (false≢true h)

later_passing : (b : Bool) (x y : ℕ) (ys : List ℕ) → Contains ys y → Contains (cond b (x ∷ ys) ys) y
later_passing true x y ys c = contains_later x y ys c
later_passing false x y ys c = c

from_passing : (b : Bool) (x y : ℕ) (ys : List ℕ) → Contains (cond b (x ∷ ys) ys) y → ((y ≡ x) × (b ≡ true)) ⊎ Contains ys y
from_passing true x y ys c = elim (contains_cons x y ys c) [ inl same ↦ inl (same, refl) | inr later ↦ inr later ]
from_passing false x y ys c = inr c

pub in_filter : (p : ℕ → Bool) (xs : List ℕ) (k : ℕ) → Contains xs k → p k ≡ true → Contains (filter p xs) k
in_filter p [] k c h = absurd (contains_none k c)
in_filter p (x ∷ xs) k c h = elim (contains_cons x k xs c) [
  | inl same ↦ subst (λ y. Contains (filter p (x ∷ xs)) y) (sym same) (here_passing (p x) x (filter p xs) (ap p (sym same) ∙ h))
  | inr later ↦ later_passing (p x) x k (filter p xs) (in_filter p xs k later h)
]

pub from_filter : (p : ℕ → Bool) (xs : List ℕ) (k : ℕ) → Contains (filter p xs) k → Contains xs k × (p k ≡ true)
from_filter p [] k c = absurd (contains_none k c)
from_filter p (x ∷ xs) k c = elim (from_passing (p x) x k (filter p xs) c) [
  | inl here ↦ (subst (λ y. Contains (x ∷ xs) y) (sym here.0) (contains_first x xs), ap p here.0 ∙ here.1)
  | inr later ↦ (let r = from_filter p xs k later in (contains_later x k xs r.0, r.1))
]
