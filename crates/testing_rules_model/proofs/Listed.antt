-- Which rows are installable doesn't depend on the order in which they are listed.
use Rattle.std.specs.Prelude.{ℕ, zero, suc, ◌<◌, ◌==◌, ◌↔◌, Bool, true, false, ◌&&◌, ◌||◌, List, length, Option, Some, None, get_or}
use Rattle.std.specs.List.{All, slice_get}
use Rattle.std.proofs.Common.{◌≡◌, refl, sym, ap, ◌∙◌, subst, arith, inl, inr, ◌⊎◌}
use Rattle.std.proofs.lemmas.Bool.{cases_lt, false≢true, eq-eqb, eqb-true}
use Rattle.std.proofs.lemmas.Option.{same_Some, slice_get_within, slice_get-get_or}
use Rattle.std.proofs.Math.Bool.{or-true}
use Rattle.deb_control.specs.declared.binary.Binary.{Binary}
use Rattle.testing_install.specs.Closed.{IsMet, IsClosed, IsInside, IsInstallable, marked}
use Rattle.testing_install.specs.Installable.{are_installable}
use Rattle.testing_install.proofs.Choosing.{are_exact}

-- some closed set of rows that are there holds the row at the place
abbrev pub IsAmong : List Binary → (ℕ → Bool) → ℕ → Type 0
IsAmong rows there k = (set : ℕ → Bool) × IsClosed rows set × IsInside rows set there × (k < length rows) × (set k ≡ true)

-- the first list has the rows of the second that are there, and no others
pub record IsListing (xs rows : List Binary) (there : ℕ → Bool) : Type 0 where
  pub within : (i : ℕ) (row : Binary) → slice_get xs i ≡ Some row → (k : ℕ) × (slice_get rows k ≡ Some row) × (there k ≡ true)
  pub all : (k : ℕ) (row : Binary) → slice_get rows k ≡ Some row → there k ≡ true → (i : ℕ) × (slice_get xs i ≡ Some row)

-- the places to which a function takes those of a set, below a bound
abbrev image : (ℕ → Bool) → (ℕ → ℕ) → ℕ → ℕ → Bool
image s f zero k = false
image s f (suc n) k = (s n && (f n == k)) || image s f n k

both : (a b : Bool) → a ≡ true → b ≡ true → (a && b) ≡ true
both a b h k = ap (λ x. x && b) h ∙ k

first_of_both : (a b : Bool) → (a && b) ≡ true → a ≡ true
first_of_both true b h = refl
first_of_both false b h = absurd (false≢true h)

second_of_both : (a b : Bool) → (a && b) ≡ true → b ≡ true
second_of_both true b h = h
second_of_both false b h = absurd (false≢true h)

either_of : (a b : Bool) → (a || b) ≡ true → (a ≡ true) ⊎ (b ≡ true)
either_of true b h = inl refl
either_of false b h = inr h

left_of : (a b : Bool) → a ≡ true → (a || b) ≡ true
left_of a b h = ap (λ x. x || b) h

right_of : (a b : Bool) → b ≡ true → (a || b) ≡ true
right_of a b h = ap (λ x. a || x) h ∙ or-true a

image_at : (s : ℕ → Bool) (f : ℕ → ℕ) (n i : ℕ) → (i ≡ n) ⊎ (i < n) → s i ≡ true → (i < n → image s f n (f i) ≡ true) → image s f (suc n) (f i) ≡ true
image_at s f n i (inl e) h more =
    left_of (s n && (f n == f i)) (image s f n (f i)) (both (s n) (f n == f i) (ap s (sym e) ∙ h) (eq-eqb (f n) (f i) (ap f (sym e))))
image_at s f n i (inr l) h more = right_of (s n && (f n == f i)) (image s f n (f i)) (more l)

below_suc : (i n : ℕ) → i < suc n → (i ≡ n) ⊎ (i < n)
below_suc i n h = elim (cases_lt i n) [ inl l ↦ inr l | inr g ↦ inl (omega (arith, h, g)) ]

in_image : (s : ℕ → Bool) (f : ℕ → ℕ) (n i : ℕ) → i < n → s i ≡ true → image s f n (f i) ≡ true
in_image s f zero i l h = absurd (omega (arith, l))
in_image s f (suc n) i l h = image_at s f n i (below_suc i n l) h (λ below. in_image s f n i below h)

of_image : (s : ℕ → Bool) (f : ℕ → ℕ) (n k : ℕ) → image s f n k ≡ true → (i : ℕ) × (i < n) × (s i ≡ true) × (f i ≡ k)
of_image s f zero k h = absurd (false≢true h)
of_image s f (suc n) k h = elim (either_of (s n && (f n == k)) (image s f n k) h) [
  | inl here ↦ (n, omega arith, first_of_both (s n) (f n == k) here, eqb-true (f n) k (second_of_both (s n) (f n == k) here))
  | inr later ↦ let r = of_image s f n k later in (r.0, omega (arith, r.1), r.2, r.3)
]

-- a closed set taken from one list to another, with one more place of a row that it has
module _ (firsts seconds : List Binary) (s : ℕ → Bool) (f : ℕ → ℕ) (closed : IsClosed firsts s)
    (same : (i : ℕ) (row : Binary) → slice_get firsts i ≡ Some row → s i ≡ true → slice_get seconds (f i) ≡ Some row)
    (i : ℕ) (own : Binary) (at : slice_get firsts i ≡ Some own) (on : s i ≡ true) (n : ℕ) (there : slice_get seconds n ≡ Some own) where
  abbrev taken : ℕ → Bool
  taken k = (n == k) || image s f (length firsts) k

  of_row : (j : ℕ) (r row : Binary) (k : ℕ) → slice_get firsts j ≡ Some r → s j ≡ true → slice_get seconds k ≡ Some r → slice_get seconds k ≡ Some row → All (IsMet seconds taken) row.clauses
  of_row j r row k from is_on here now = λ c d l.
      let same_row : r ≡ row = same_Some r row (sym here ∙ now) in
      let met = subst (λ (q : Binary). All (IsMet firsts s) q.clauses) same_row (closed j r from is_on) c d l in
      let reached = in_image s f (length firsts) met.0 (slice_get_within firsts met.0 met.1 met.2) met.3 in
      (f met.0, met.1, same met.0 met.1 met.2 met.3, right_of (n == f met.0) (image s f (length firsts) (f met.0)) reached, met.4)

  pub taken_closed : IsClosed seconds taken
  taken_closed k row now is_on = elim (either_of (n == k) (image s f (length firsts) k) is_on) [
    | inl e ↦ of_row i own row k at on (ap (slice_get seconds) (sym (eqb-true n k e)) ∙ there) now
    | inr reached ↦
        let r = of_image s f (length firsts) k reached in
        let row_at = slice_get-get_or firsts r.0 own r.1 in
        of_row r.0 (get_or firsts r.0 own) row k row_at r.2 (ap (slice_get seconds) (sym r.3) ∙ same r.0 (get_or firsts r.0 own) row_at r.2) now
  ]

  pub taken_has : taken n ≡ true
  taken_has = left_of (n == n) (image s f (length firsts) n) (eq-eqb n n refl)

  -- it lies where the function leads
  pub taken_inside : (set : ℕ → Bool) → set n ≡ true → ((j : ℕ) (row : Binary) → slice_get firsts j ≡ Some row → s j ≡ true → set (f j) ≡ true) → (k : ℕ) → taken k ≡ true → set k ≡ true
  taken_inside set h each k is_on = elim (either_of (n == k) (image s f (length firsts) k) is_on) [
    | inl e ↦ ap set (sym (eqb-true n k e)) ∙ h
    | inr reached ↦
        let r = of_image s f (length firsts) k reached in
        ap set (sym r.3) ∙ each r.0 (get_or firsts r.0 own) (slice_get-get_or firsts r.0 own r.1) r.2
  ]

-- a place for each place at which there is a row
module _ (firsts seconds : List Binary) (s : ℕ → Bool) (find : (i : ℕ) (row : Binary) → slice_get firsts i ≡ Some row → s i ≡ true → (k : ℕ) × (slice_get seconds k ≡ Some row)) where
  abbrev place_at : (i : ℕ) (m : Option Binary) (b : Bool) → slice_get firsts i ≡ m → s i ≡ b → ℕ
  place_at i None b e h = zero
  place_at i (Some row) false e h = zero
  place_at i (Some row) true e h = (find i row e h).0

  abbrev pub place : ℕ → ℕ
  place i = place_at i (slice_get firsts i) (s i) refl refl

  place_is_at : (i : ℕ) (row : Binary) (m : Option Binary) (b : Bool) (e : slice_get firsts i ≡ m) (h : s i ≡ b) → m ≡ Some row → b ≡ true → slice_get seconds (place_at i m b e h) ≡ Some row
  place_is_at i row None b e h now on = let no : None ≡ Some row = now in cc
  place_is_at i row (Some r) false e h now on = absurd (false≢true on)
  place_is_at i row (Some r) true e h now on = (find i r e h).1 ∙ now

  pub place_is : (i : ℕ) (row : Binary) → slice_get firsts i ≡ Some row → s i ≡ true → slice_get seconds (place i) ≡ Some row
  place_is i row now on = place_is_at i row (slice_get firsts i) (s i) refl refl now on

  place_has_at : (P : ℕ → Type 0) → ((i : ℕ) (row : Binary) (e : slice_get firsts i ≡ Some row) (h : s i ≡ true) → P (find i row e h).0)
      → (i : ℕ) (row : Binary) (m : Option Binary) (b : Bool) (e : slice_get firsts i ≡ m) (h : s i ≡ b) → m ≡ Some row → b ≡ true → P (place_at i m b e h)
  place_has_at P each i row None b e h now on = let no : None ≡ Some row = now in cc
  place_has_at P each i row (Some r) false e h now on = absurd (false≢true on)
  place_has_at P each i row (Some r) true e h now on = each i r e h

  pub place_has : (P : ℕ → Type 0) → ((i : ℕ) (row : Binary) (e : slice_get firsts i ≡ Some row) (h : s i ≡ true) → P (find i row e h).0)
      → (i : ℕ) (row : Binary) → slice_get firsts i ≡ Some row → s i ≡ true → P (place i)
  place_has P each i row now on = place_has_at P each i row (slice_get firsts i) (s i) refl refl now on

-- a row that is installable among those of one list that are there is so in a list that has these there too
pub carried : (xs rows : List Binary) (here there : ℕ → Bool)
    → ((i : ℕ) (row : Binary) → slice_get xs i ≡ Some row → here i ≡ true → (k : ℕ) × (slice_get rows k ≡ Some row) × (there k ≡ true))
    → (i k : ℕ) (row : Binary) → slice_get xs i ≡ Some row → slice_get rows k ≡ Some row → there k ≡ true → IsAmong xs here i → IsAmong rows there k
carried xs rows here there within i k row at now stands some =
    let s = some.0 in
    let up : (j : ℕ) (r : Binary) → slice_get xs j ≡ Some r → s j ≡ true → here j ≡ true = λ j r e on. some.2 j (slice_get_within xs j r e) on in
    let find : (j : ℕ) (r : Binary) → slice_get xs j ≡ Some r → s j ≡ true → (p : ℕ) × (slice_get rows p ≡ Some r) = λ j r e on. let w = within j r e (up j r e on) in (w.0, w.1) in
    let f = place xs rows s find in
    let same = place_is xs rows s find in
    let inside = place_has xs rows s find (λ p. there p ≡ true) (λ j r e on. (within j r e (up j r e on)).2) in (
      taken xs rows s f some.1 same i row at some.4 k now,
      taken_closed xs rows s f some.1 same i row at some.4 k now,
      λ p below on. taken_inside xs rows s f some.1 same i row at some.4 k now there stands inside p on,
      slice_get_within rows k row now,
      taken_has xs rows s f some.1 same i row at some.4 k now,
    )

module _ (xs rows : List Binary) (there : ℕ → Bool) (h : IsListing xs rows there) (i k : ℕ) (row : Binary)
    (at : slice_get xs i ≡ Some row) (here : slice_get rows k ≡ Some row) (stands : there k ≡ true) where
  to_among : IsInstallable xs i → IsAmong rows there k
  to_among some =
      let s = some.0 in
      let find : (j : ℕ) (r : Binary) → slice_get xs j ≡ Some r → s j ≡ true → (p : ℕ) × (slice_get rows p ≡ Some r) = λ j r e on. let w = h.within j r e in (w.0, w.1) in
      let f = place xs rows s find in
      let same = place_is xs rows s find in
      let inside = place_has xs rows s find (λ p. there p ≡ true) (λ j r e on. (h.within j r e).2) in
      let set = taken xs rows s f some.1 same i row at some.3 k here in (
        set,
        taken_closed xs rows s f some.1 same i row at some.3 k here,
        λ p below on. taken_inside xs rows s f some.1 same i row at some.3 k here there stands inside p on,
        slice_get_within rows k row here,
        taken_has xs rows s f some.1 same i row at some.3 k here,
      )

  from_among : IsAmong rows there k → IsInstallable xs i
  from_among some =
      let s = some.0 in
      let find : (j : ℕ) (r : Binary) → slice_get rows j ≡ Some r → s j ≡ true → (p : ℕ) × (slice_get xs p ≡ Some r) =
      λ j r e on. h.all j r e (some.2 j (slice_get_within rows j r e) on) in
      let f = place rows xs s find in
      let same = place_is rows xs s find in (
        taken rows xs s f some.1 same k row here some.4 i at,
        taken_closed rows xs s f some.1 same k row here some.4 i at,
        slice_get_within xs i row at,
        taken_has rows xs s f some.1 same k row here some.4 i at,
      )

  -- the computed answer for a row that is listed is the one among those that are there
  pub listed_exact : (marked (are_installable xs) i ≡ true) ↔ IsAmong rows there k
  listed_exact =
      let exact = are_exact xs i (slice_get_within xs i row at) in
      (λ on. to_among (exact.0 on), λ some. exact.1 (from_among some))
