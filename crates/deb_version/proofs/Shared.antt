-- A front that two parts share can be passed over, up to a non-digit.
use Rattle.std.proofs.Common.{◌≡◌, ℕ, zero, suc, ◌+◌, ◌*◌, ◌-◌, ◌≤◌, ◌<◌, true, false, not, List, [], ◌∷◌, length, take, drop, get_or, refl, sym, ap, ◌∙◌, subst, arith, ⊎_elim}
use Rattle.std.proofs.Math.Numerals.{one-add}
use Rattle.std.proofs.lemmas.Bool.{cases_lt}
use Rattle.std.proofs.lemmas.Cmp.{nat_cmp_total, int_cmp_total, tied_itself}
use Rattle.std.proofs.lemmas.List.{length-drop, get_or-drop, drop-drop}
use Rattle.std.specs.Char.{is_ascii_digit, digit_value}
use Rattle.std.specs.Str.Parse.{digits_value_after}
use Rattle.std.specs.declared.cmp.Ordering.{Ordering}
use Rattle.std.specs.Ordering.{ordering_then, nat_cmp, int_cmp}
use Rattle.deb_version.specs.steps.Digits.{leading_digits, after_digits}
use Rattle.deb_version.specs.Key.{weight, is_non_digit, part_cmp}
use Rattle.deb_version.proofs.Runs.{position_first, position_later}
use Rattle.deb_version.proofs.Front.{stops_at_digit, text_step, digits_step}

-- the first n bytes of two parts are the same digits, and the next is the same non-digit
pub record Shared (n : ℕ) (a b : List ℕ) : Type 0 where
  pub first : n < length a
  pub second : n < length b
  pub digits : (k : ℕ) → k < n → (get_or a k 0 ≡ get_or b k 0) × (is_ascii_digit (get_or a k 0) ≡ true)
  pub same : get_or a n 0 ≡ get_or b n 0
  pub text : is_ascii_digit (get_or a n 0) ≡ false

-- a shared non-digit decides nothing
text_same : (c d : ℕ) (a b : List ℕ) → c ≡ d → is_ascii_digit c ≡ false → part_cmp (c ∷ a) (d ∷ b) ≡ part_cmp a b
text_same c d a b e h =
    text_step c d a b h (subst (λ x. is_ascii_digit x ≡ false) e h)
    ∙ ap (λ x. ordering_then (int_cmp (weight c) (weight x)) (part_cmp a b)) (sym e)
    ∙ ap (λ o. ordering_then o (part_cmp a b)) (tied_itself int_cmp_total (weight c))

-- behind digits of the same value on both sides
abbrev behind : ℕ → List ℕ → List ℕ → Ordering
behind m f g = ordering_then (nat_cmp (digits_value_after 10 m (leading_digits f)) (digits_value_after 10 m (leading_digits g))) (part_cmp (after_digits f) (after_digits g))

no_digits : (c : ℕ) (cs : List ℕ) → is_ascii_digit c ≡ false → leading_digits (c ∷ cs) ≡ []
no_digits c cs h = ap (λ n. take n (c ∷ cs)) (position_first is_non_digit c cs (ap not h))

all_after : (c : ℕ) (cs : List ℕ) → is_ascii_digit c ≡ false → after_digits (c ∷ cs) ≡ c ∷ cs
all_after c cs h = ap (λ n. drop n (c ∷ cs)) (position_first is_non_digit c cs (ap not h))

one_digit : (c : ℕ) (cs : List ℕ) → is_ascii_digit c ≡ true → leading_digits (c ∷ cs) ≡ c ∷ leading_digits cs
one_digit c cs h = ap (λ n. take n (c ∷ cs)) (position_later is_non_digit c cs (ap not h) ∙ one-add _)

after_one : (c : ℕ) (cs : List ℕ) → is_ascii_digit c ≡ true → after_digits (c ∷ cs) ≡ after_digits cs
after_one c cs h = ap (λ n. drop n (c ∷ cs)) (position_later is_non_digit c cs (ap not h) ∙ one-add _)

-- how numbers m and n with these digits behind them, and what follows, compare
abbrev numbers : ℕ → List ℕ → List ℕ → List ℕ → List ℕ → Ordering
numbers m f a g b = ordering_then (nat_cmp (digits_value_after 10 m f) (digits_value_after 10 m g)) (part_cmp a b)

behind_is : (m : ℕ) (f g s a t b : List ℕ) → leading_digits f ≡ s → after_digits f ≡ a → leading_digits g ≡ t → after_digits g ≡ b → behind m f g ≡ numbers m s a t b
behind_is m f g s a t b sf af tg bg =
    ap (λ v. numbers m v (after_digits f) (leading_digits g) (after_digits g)) sf
    ∙ ap (λ v. numbers m s v (leading_digits g) (after_digits g)) af
    ∙ ap (λ v. numbers m s a v (after_digits g)) tg
    ∙ ap (λ v. numbers m s a t v) bg

-- the text ends the shared digits
digits_end : (m c d : ℕ) (a b : List ℕ) → c ≡ d → is_ascii_digit c ≡ false → behind m (c ∷ a) (d ∷ b) ≡ part_cmp a b
digits_end m c d a b e h =
    let k : is_ascii_digit d ≡ false = subst (λ x. is_ascii_digit x ≡ false) e h in
    behind_is m (c ∷ a) (d ∷ b) [] (c ∷ a) [] (d ∷ b) (no_digits c a h) (all_after c a h) (no_digits d b k) (all_after d b k)
    ∙ ap (λ o. ordering_then o (part_cmp (c ∷ a) (d ∷ b))) (tied_itself nat_cmp_total m)
    ∙ text_same c d a b e h

-- one more shared digit
digit_more : (m c d : ℕ) (a b : List ℕ) → c ≡ d → is_ascii_digit c ≡ true → behind m (c ∷ a) (d ∷ b) ≡ behind (m * 10 + digit_value c) a b
digit_more m c d a b e h =
    let k : is_ascii_digit d ≡ true = subst (λ x. is_ascii_digit x ≡ true) e h in
    behind_is m (c ∷ a) (d ∷ b) (c ∷ leading_digits a) (after_digits a) (d ∷ leading_digits b) (after_digits b) (one_digit c a h) (after_one c a h) (one_digit d b k) (after_one d b k)
    ∙ ap (λ x. ordering_then (nat_cmp (digits_value_after 10 (m * 10 + digit_value c) (leading_digits a)) (digits_value_after 10 (m * 10 + digit_value x) (leading_digits b))) (part_cmp (after_digits a) (after_digits b))) (sym e)

shared_digits : (n m : ℕ) (a b : List ℕ) → Shared n a b → behind m a b ≡ part_cmp (drop (suc n) a) (drop (suc n) b)
shared_digits n m [] b h = absurd (omega (arith, h.first))
shared_digits n m (c ∷ a) [] h = absurd (omega (arith, h.second))
shared_digits zero m (c ∷ a) (d ∷ b) h = digits_end m c d a b h.same h.text
shared_digits (suc n) m (c ∷ a) (d ∷ b) h =
    let here : (c ≡ d) × (is_ascii_digit c ≡ true) = h.digits 0 (omega arith) in
    digit_more m c d a b here.0 here.1
    ∙ shared_digits n (m * 10 + digit_value c) a b
    (record { first = omega (arith, h.first); second = omega (arith, h.second); digits = λ k below. h.digits (suc k) (omega arith); same = h.same; text = h.text })

-- shared digits and the shared non-digit behind them decide nothing
shared_skips : (n : ℕ) (a b : List ℕ) → Shared n a b → part_cmp a b ≡ part_cmp (drop (suc n) a) (drop (suc n) b)
shared_skips n [] b h = absurd (omega (arith, h.first))
shared_skips n (c ∷ a) [] h = absurd (omega (arith, h.second))
shared_skips zero (c ∷ a) (d ∷ b) h = text_same c d a b h.same h.text
shared_skips (suc n) (c ∷ a) (d ∷ b) h =
    let here : (c ≡ d) × (is_ascii_digit c ≡ true) = h.digits 0 (omega arith) in
    digits_step (c ∷ a) (d ∷ b) (stops_at_digit c a here.1).rank_is (stops_at_digit d b (subst (λ x. is_ascii_digit x ≡ true) here.0 here.1)).rank_is
    ∙ shared_digits (suc n) 0 (c ∷ a) (d ∷ b) h

-- what is passed over grows by shared digits and the shared non-digit at a place
front_more : (a b : List ℕ) (front i : ℕ) → front ≤ i → i < length a → i < length b
    → ((k : ℕ) → front ≤ k → k < i → (get_or a k 0 ≡ get_or b k 0) × (is_ascii_digit (get_or a k 0) ≡ true))
    → get_or a i 0 ≡ get_or b i 0 → is_ascii_digit (get_or a i 0) ≡ false
    → part_cmp (drop front a) (drop front b) ≡ part_cmp (drop (i + 1) a) (drop (i + 1) b)
front_more a b front i begun within_a within_b digits same text =
    let n : ℕ = i - front in
    let place : front + n ≡ i = omega arith in
    let behind_place : front + suc n ≡ i + 1 = omega arith in
    shared_skips n (drop front a) (drop front b) (record {
      first = rw length-drop (omega arith);
      second = rw length-drop (omega arith);
      digits = λ k below. rw (get_or-drop front a k 0, get_or-drop front b k 0) (digits (front + k) (omega arith) (omega arith));
      same = rw (get_or-drop front a n 0, get_or-drop front b n 0, place) same;
      text = rw (get_or-drop front a n 0, place) text;
    })
    ∙ rw (drop-drop (suc n) front a, drop-drop (suc n) front b, behind_place) refl

-- a front of two parts that can be passed over, and behind it, up to a place, digits that they share
pub record IsFront (a b : List ℕ) (front place : ℕ) : Type 0 where
  pub begun : front ≤ place
  pub rest : part_cmp a b ≡ part_cmp (drop front a) (drop front b)
  pub digits : (k : ℕ) → front ≤ k → k < place → (get_or a k 0 ≡ get_or b k 0) × (is_ascii_digit (get_or a k 0) ≡ true)

-- a shared non-digit ends the front
pub front_taken : (a b : List ℕ) (front i : ℕ) → IsFront a b front i → i < length a → i < length b → get_or a i 0 ≡ get_or b i 0 → is_ascii_digit (get_or a i 0) ≡ false → IsFront a b (i + 1) (i + 1)
front_taken a b front i so_far within_a within_b same text = record {
  begun = omega arith;
  rest = so_far.rest ∙ front_more a b front i so_far.begun within_a within_b so_far.digits same text;
  digits = λ k low high. absurd (omega arith);
}

-- a shared digit leaves it
pub front_kept : (a b : List ℕ) (front i : ℕ) → IsFront a b front i → get_or a i 0 ≡ get_or b i 0 → is_ascii_digit (get_or a i 0) ≡ true → IsFront a b front (i + 1)
front_kept a b front i so_far same digit = record {
  begun = omega (arith, so_far.begun);
  rest = so_far.rest;
  digits = λ k low high. ⊎_elim
      (λ before. so_far.digits k low before)
      (λ here.
      let e : i ≡ k = omega arith in
      (subst (λ n. get_or a n 0 ≡ get_or b n 0) e same, subst (λ n. is_ascii_digit (get_or a n 0) ≡ true) e digit))
      (cases_lt k i);
}
