-- A part of mail that lies by place: the letters of a sender from one number to another, and the first number from one on.
use Rattle.std.proofs.Common.{◌≡◌, ◌≢◌, ◌≤◌, ◌<◌, ◌+◌, ◌-◌, ℕ, zero, suc, Bool, true, false, not, ◌&&◌, Option, Some, None, is_some, List, [], ◌∷◌, ◌++◌, filter, filter_map, map, slice_get, refl, sym, ap, subst, ◌∙◌, arith, append_assoc}
use Rattle.std.proofs.lemmas.Bool.Decides.{nat_tests}
use Rattle.std.proofs.lemmas.List.{append-nil}
use Rattle.std.proofs.lemmas.Cmp.{nat_cmp_total, tied_itself}
use Rattle.std.specs.declared.cmp.Ordering.{Ordering}
use Rattle.std.specs.declared.cmp.Ordering.TheVariants.{Less, Equal, Greater}
use Rattle.std.specs.declared.ops.Bound.TheVariants.{Included, Unbounded}
use Rattle.std.specs.Ordering.{nat_cmp, is_le, is_lt, is_gt, is_eq, ordering_then}
use Rattle.std.specs.List.{AllByRecursion, range_with_len, cons_option}
use Rattle.std.specs.List.Sorted.{IsStrictlySortedBy}
use Rattle.std.specs.Option.{option_map}
use Rattle.std.specs.FinMap.{find, get, get-from_entries}
use Rattle.std.specs.BTreeMap.{BTreeMap}
use Rattle.std.specs.BTreeMap.Range.{entries_between, range_contains, IsRangeOf, IsEntryInRange, IsLeBy}
use Rattle.std.specs.Option.{IfSome}
use Rattle.office_mail.specs.Kept.{Place, place_cmp}
use Rattle.office_mail.proofs.KeptFacts.{places_total, exact_places}
use Rattle.office_store_keeper.specs.declared.values.Letter.{Letter}
use Rattle.office_store_keeper.specs.Content.{letter_at, letters_within, IsNextNumber}
use Rattle.office_store_keeper.specs.MemoryState.{kept_in}
use Rattle.office_store_keeper.specs.steps.MemoryState.{letter_of}
use Rattle.office_store_keeper.proofs.MemoryFacts.{get-kept_in}

abbrev Entry : Type 0
Entry = Place × List ℕ

abbrev AreByPlace : List Entry → Type 0
AreByPlace es = IsStrictlySortedBy place_cmp (map (λ (e : Entry). e.0) es)

-- the place after one of a sender
next_number : (n k : ℕ) → is_lt (nat_cmp n k) ≡ is_le (nat_cmp (n + 1) k)
next_number n k = grind (arith, nat_tests)

next_by : (o : Ordering) (n k : ℕ) → is_lt (ordering_then o (nat_cmp n k)) ≡ is_le (ordering_then o (nat_cmp (n + 1) k))
next_by Less n k = refl
next_by Equal n k = next_number n k
next_by Greater n k = refl

next_place : (s n : ℕ) (q : Place) → is_lt (place_cmp (s, n) q) ≡ is_le (place_cmp (s, n + 1) q)
next_place s n q = next_by (nat_cmp s q.0) n q.1

-- one of a sender's n places from a number on
abbrev is_inside : ℕ → ℕ → ℕ → Place → Bool
is_inside s from n q = is_le (place_cmp (s, from) q) && not (is_le (place_cmp (s, from + n) q))

abbrev inside : ℕ → ℕ → ℕ → List Entry → List Entry
inside s from n es = filter (λ e. is_inside s from n e.0) es

-- at the first of the places
later_number : (from n : ℕ) → is_le (nat_cmp (from + suc n) from) ≡ false
later_number from n = grind (arith, nat_tests)

first_inside : (s from n : ℕ) → is_inside s from (suc n) (s, from) ≡ true
first_inside s from n = rw (tied_itself nat_cmp_total s, tied_itself nat_cmp_total from, later_number from n) refl

-- and above it
more_places : (from n : ℕ) → from + suc n ≡ from + 1 + n
more_places from n = omega arith

above_inside : (s from n : ℕ) (q : Place) → place_cmp (s, from) q ≡ Less → is_inside s from (suc n) q ≡ is_inside s (from + 1) n q
above_inside s from n q e =
    let up : is_le (place_cmp (s, from + 1) q) ≡ true = sym (next_place s from q) ∙ ap is_lt e in
    rw (ap is_le e, up, more_places from n) refl

-- from the place on, but not above it
not_later : (s from n : ℕ) (q : Place) → is_lt (place_cmp (s, from) q) ≡ false → is_inside s (from + 1) n q ≡ false
not_later s from n q e = rw (sym (next_place s from q) ∙ e) refl

-- entries that lie above a place
abbrev AreAbove : Place → List Entry → Type 0
AreAbove p es = AllByRecursion (λ q. place_cmp p q ≡ Less) (map (λ (e : Entry). e.0) es)

none_at : (p : Place) (es : List Entry) → AreAbove p es → find place_cmp p es ≡ None
none_at p [] h = refl
none_at p (e ∷ es) h = rw (ap is_eq h.0) (none_at p es h.1)

same_above : (s from n : ℕ) (es : List Entry) → AreAbove (s, from) es → inside s from (suc n) es ≡ inside s (from + 1) n es
same_above s from n [] h = refl
same_above s from n (e ∷ es) h = rw (above_inside s from n e.0 h.0, same_above s from n es h.1) refl

above_all : (p q : Place) (es : List Entry) → place_cmp p q ≡ Less → AreAbove q es → AreAbove p es
above_all p q [] h k = tt
above_all p q (e ∷ es) h k = (places_total.trans p q e.0 h k.0, above_all p q es h k.1)

abbrev entry_at : Place → Option (List ℕ) → Option Entry
entry_at p text = option_map (λ t. (p, t)) text

-- of a sender's places from a number on, the first comes first
first_at : (o : Ordering) (s from n : ℕ) (e : Entry) (es : List Entry) → place_cmp (s, from) e.0 ≡ o → AreAbove e.0 es
    → inside s from (suc n) es ≡ cons_option (entry_at (s, from) (find place_cmp (s, from) es)) (inside s (from + 1) n es)
    → inside s from (suc n) (e ∷ es) ≡ cons_option (entry_at (s, from) (find place_cmp (s, from) (e ∷ es))) (inside s (from + 1) n (e ∷ es))
first_at Less s from n e es at above more =
    let all : AreAbove (s, from) (e ∷ es) = (at, above_all (s, from) e.0 es at above) in
    same_above s from n (e ∷ es) all ∙ ap (λ o. cons_option (entry_at (s, from) o) (inside s (from + 1) n (e ∷ es))) (sym (none_at (s, from) (e ∷ es) all))
first_at Equal s from n e es at above more =
    let same : (s, from) ≡ e.0 = exact_places (s, from) e.0 at in
    let first : is_inside s from (suc n) e.0 ≡ true = subst (λ q. is_inside s from (suc n) q ≡ true) same (first_inside s from n) in
    let gone : is_inside s (from + 1) n e.0 ≡ false = not_later s from n e.0 (ap is_lt at) in
    rw (first, gone, ap is_eq at, same_above s from n es (above_all_from same above)) (ap (λ (p : Place). let d : Entry = (p, e.1) in d ∷ inside s (from + 1) n es) (sym same))
  where
    above_all_from : (s, from) ≡ e.0 → AreAbove e.0 es → AreAbove (s, from) es
    above_all_from eq h = subst (λ q. AreAbove q es) (sym eq) h
first_at Greater s from n e es at above more =
    let before : is_inside s from (suc n) e.0 ≡ false = rw (ap is_le at) refl in
    let gone : is_inside s (from + 1) n e.0 ≡ false = not_later s from n e.0 (ap is_lt at) in
    rw (before, gone, ap is_eq at) more

first_comes : (s from n : ℕ) (es : List Entry) → AreByPlace es → inside s from (suc n) es ≡ cons_option (entry_at (s, from) (find place_cmp (s, from) es)) (inside s (from + 1) n es)
unfolding IsStrictlySortedBy
first_comes s from n [] h = refl
first_comes s from n (e ∷ es) h = first_at _ s from n e es refl h.0 (first_comes s from n es h.1)

none_inside_at : (b : Bool) → (b && not b) ≡ false
none_inside_at true = refl
none_inside_at false = refl

nowhere_inside : (s from : ℕ) (q : Place) → is_inside s from 0 q ≡ false
nowhere_inside s from q = let same : from + 0 ≡ from = omega arith in rw same (none_inside_at (is_le (place_cmp (s, from) q)))

none_inside : (s from : ℕ) (es : List Entry) → inside s from 0 es ≡ []
none_inside s from [] = refl
none_inside s from (e ∷ es) = rw (nowhere_inside s from e.0, none_inside s from es) refl

-- as letters
letters_of_both : (s number : ℕ) (text : Option (List ℕ)) (es : List Entry)
    → map letter_of (cons_option (entry_at (s, number) text) es) ≡ cons_option (option_map (λ (t : List ℕ). record { number = number; text = t }) text) (map letter_of es)
letters_of_both s number None es = refl
letters_of_both s number (Some text) es = refl

letters_inside : (s from n : ℕ) (es : List Entry) → AreByPlace es → map letter_of (inside s from n es) ≡ filter_map (letter_at (kept_in es) s) (range_with_len from n)
letters_inside s from zero es h = ap (map letter_of) (none_inside s from es)
letters_inside s from (suc n) es h =
    ap (map letter_of) (first_comes s from n es h)
    ∙ letters_of_both s from (find place_cmp (s, from) es) (inside s (from + 1) n es)
    ∙ ap (λ o. cons_option (option_map (λ (t : List ℕ). record { number = from; text = t }) o) (map letter_of (inside s (from + 1) n es))) (sym (get-from_entries places_total es (s, from)))
    ∙ ap (cons_option (letter_at (kept_in es) s from)) (letters_inside s (from + 1) n es h)

same_filter : {A : Type 0} (f g : A → Bool) → ((x : A) → f x ≡ g x) → (xs : List A) → filter f xs ≡ filter g xs
same_filter f g h [] = refl
same_filter f g h (x ∷ xs) = rw (h x, same_filter f g h xs) refl

-- the entries between two places of a sender are its letters from one number to another
pub letters_between : (s from to : ℕ) (es : List Entry) → from ≤ to → AreByPlace es
    → map letter_of (entries_between place_cmp (Included (s, from)) (Included (s, to)) es) ≡ letters_within (kept_in es) s from to
unfolding letters_within
letters_between s from to es up h =
    let last : to + 1 ≡ from + (to + 1 - from) = omega (arith, up) in
    let part : (e : Entry) → range_contains place_cmp (Included (s, from)) (Included (s, to)) e.0 ≡ is_inside s from (to + 1 - from) e.0 =
    λ e. ap (λ b. is_le (place_cmp (s, from) e.0) && not b) (next_place s to e.0 ∙ ap (λ k. is_le (place_cmp (s, k) e.0)) last) in
    ap (map letter_of) (same_filter _ _ part es) ∙ letters_inside s from (to + 1 - from) es h

-- and none where the first number is above the second
pub letters_of_none : (es : List Entry) (s from to : ℕ) (letters : List Letter) → to < from → letters ≡ [] → letters ≡ letters_within (kept_in es) s from to
unfolding letters_within
letters_of_none es s from to letters over none = let few : to + 1 - from ≡ 0 = omega (arith, over) in rw few none

-- Reading them from a tree.

-- one letter more, and one entry fewer
pub letter_comes : (letters more : List Letter) (e : Place × List ℕ) (text : List ℕ) (left rest : List (Place × List ℕ)) → text ≡ e.1 → more ≡ letters ++ record { number = e.0.1; text = text } ∷ []
    → left ≡ e ∷ rest → more ++ map letter_of rest ≡ letters ++ map letter_of left
letter_comes letters more e text left rest same pushed steps = rw (pushed, same, steps) (append_assoc letters (letter_of e ∷ []) (map letter_of rest))

-- no entry is left
pub letters_are_all : (letters : List Letter) (left : List (Place × List ℕ)) → left ≡ [] → letters ≡ letters ++ map letter_of left
letters_are_all letters left none = rw none (sym (append-nil letters))

-- ---- the first number from one on

-- a place that isn't above another: its sender isn't, nor is its number where the senders are one
not_above_by : (o : Ordering) (a b c d : ℕ) → nat_cmp a c ≡ o → is_gt (ordering_then o (nat_cmp b d)) ≡ false → (a ≤ c) × (a ≡ c → b ≤ d)
not_above_by Less a b c d e h = let below : is_lt (nat_cmp a c) ≡ true = ap is_lt e in (grind (arith, nat_tests), λ same. grind (arith, nat_tests))
not_above_by Equal a b c d e h = let level : is_eq (nat_cmp a c) ≡ true = ap is_eq e in (grind (arith, nat_tests), λ same. grind (arith, nat_tests))
not_above_by Greater a b c d e h = absurd (let e = h in cc)

not_above : (p q : Place) → is_gt (place_cmp p q) ≡ false → (p.0 ≤ q.0) × (p.0 ≡ q.0 → p.1 ≤ q.1)
not_above p q h = not_above_by (nat_cmp p.0 q.0) p.0 p.1 q.0 q.1 refl h

-- a number of a sender from one on
not_before : (from n : ℕ) → from ≤ n → is_gt (nat_cmp from n) ≡ false
not_before from n low = grind (arith, nat_tests)

on_from : (s from n : ℕ) → from ≤ n → is_gt (place_cmp (s, from) (s, n)) ≡ false
on_from s from n low = rw (tied_itself nat_cmp_total s) (not_before from n low)

none_unless : {A : Type 0} (o : Option A) → (is_some o ≡ true → ⊥) → o ≡ None
none_unless None never = refl
none_unless (Some x) never = absurd (never refl)

module _ (s from : ℕ) (mail : BTreeMap Place (List ℕ)) (part : List Entry) (is : IsRangeOf place_cmp (Included (s, from)) Unbounded mail part) where
  abbrev kept_here : ℕ → Option (List ℕ)
  kept_here n = get (kept_in mail.entries) (s, n)

  pub next_none : part ≡ [] → IsNextNumber (kept_in mail.entries) s from None
  next_none none n low = get-kept_in mail.entries (s, n) ∙ is.5 none (s, n) (on_from s from n low, tt)

  module _ (e : Entry) (rest : List Entry) (first : part ≡ e ∷ rest) where
    -- the first entry lies there, and isn't above another
    inside_first : (is_gt (place_cmp (s, from) e.0) ≡ false) × (get (kept_in mail.entries) e.0 ≡ Some e.1)
    inside_first = let i = subst (λ (es : List Entry). IfSome (slice_get es 0) (IsEntryInRange place_cmp (Included (s, from)) Unbounded mail)) first is.1 in (i.0.0, get-kept_in mail.entries e.0 ∙ i.1)

    is_least : (n : ℕ) → from ≤ n → is_some (kept_here n) ≡ true → is_gt (place_cmp e.0 (s, n)) ≡ false
    is_least n low there =
        subst (λ (es : List Entry). IfSome (slice_get es 0) (λ x. IsLeBy place_cmp x.0 (s, n))) first
        (is.2 (s, n) (on_from s from n low, tt) (ap is_some (sym (get-kept_in mail.entries (s, n))) ∙ there))

    pub next_other : e.0.0 ≢ s → IsNextNumber (kept_in mail.entries) s from None
    next_other other n low = none_unless (kept_here n) (λ there.
        let a : s ≤ e.0.0 = (not_above (s, from) e.0 inside_first.0).0 in
        let b : e.0.0 ≤ s = (not_above e.0 (s, n) (is_least n low there)).0 in
        other (omega (arith, a, b)))

    pub next_here : e.0.0 ≡ s → IsNextNumber (kept_in mail.entries) s from (Some e.0.1)
    next_here same = (
      (not_above (s, from) e.0 inside_first.0).1 (sym same),
      ap (λ (k : ℕ). is_some (get (kept_in mail.entries) (k, e.0.1))) (sym same) ∙ ap is_some inside_first.1,
      λ m low high. none_unless (kept_here m) (λ there. let b : e.0.1 ≤ m = (not_above e.0 (s, m) (is_least m low there)).1 same in omega (arith, b, high)),
    )
