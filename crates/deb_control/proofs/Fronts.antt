-- The front of a list whose elements pass a test, and what stands behind it.
use Rattle.std.proofs.Common.{◌≡◌, ℕ, ◌+◌, ◌-◌, ◌<◌, ◌≤◌, Bool, true, false, cond, not, ◌&&◌, List, [], ◌∷◌, ◌++◌, length, take, drop, get_or, reverse, refl, sym, ap, ◌∙◌, ⊎_elim, arith}
use Rattle.std.specs.List.{list_all, take_while, prefix_len, suffix_len, position_or_len, before_first, after_first, before_last, after_last}
use Rattle.std.proofs.lemmas.Bool.{cases_Bool, cases_lt, and_parts, and_from}
use Rattle.std.proofs.lemmas.List.{append-nil, take-append-drop, take_all, drop_more, get_or-reverse, length-reverse}
use Rattle.std.proofs.lemmas.List.Folds.{list_all-append}
use Rattle.std.proofs.lemmas.List.Sums.{passes_at_first}
use Rattle.deb_control.proofs.Split.{take_while-append, left_after-append, take_while_yes, take_while_no}

module _ {X : Type 0} (q : X → Bool) where
  -- the longest front passes
  pub front_passes : (xs : List X) → list_all q (take_while q xs) ≡ true
  front_passes [] = refl
  front_passes (x ∷ xs) = ⊎_elim
      (λ (yes : q x ≡ true). rw (take_while_yes q x xs yes) (and_from (q x) (list_all q (take_while q xs)) yes (front_passes xs)))
      (λ (no : q x ≡ false). rw (take_while_no q x xs no) refl)
      (cases_Bool (q x))

  -- nothing passes in front of an element that fails
  pub none_in_front : (x : X) (xs : List X) → q x ≡ false → prefix_len q (x ∷ xs) ≡ 0
  none_in_front x xs failed = ap (λ b. cond b (1 + prefix_len q xs) 0) failed

  -- a front that passes, before something that fails, is the longest, and this is what stands behind it
  pub front_is : (xs ys : List X) → list_all q xs ≡ true → prefix_len q ys ≡ 0 → take_while q (xs ++ ys) ≡ xs
  front_is xs ys h none = take_while-append q xs ys h ∙ ap (λ (n : ℕ). xs ++ take n ys) none ∙ append-nil xs

  pub behind_is : (xs ys : List X) → list_all q xs ≡ true → prefix_len q ys ≡ 0 → drop (prefix_len q (xs ++ ys)) (xs ++ ys) ≡ ys
  behind_is xs ys h none = left_after-append q xs ys h ∙ ap (λ (n : ℕ). drop n ys) none

  -- what passes one test passes a wider one
  pub pass_wider : (p : X → Bool) → ((x : X) → p x ≡ true → q x ≡ true) → (xs : List X) → list_all p xs ≡ true → list_all q xs ≡ true
  pass_wider p wider [] h = refl
  pass_wider p wider (x ∷ xs) h =
      let both = and_parts (p x) (list_all p xs) h in
      and_from (q x) (list_all q xs) (wider x both.0) (pass_wider p wider xs both.1)

  -- nothing passes in front of elements that fail, and what follows them
  pub none_in_front_of : (p : X → Bool) → ((x : X) → p x ≡ true → q x ≡ false) → (xs ys : List X) → list_all p xs ≡ true → prefix_len q ys ≡ 0 → prefix_len q (xs ++ ys) ≡ 0
  none_in_front_of p fail [] ys h none = none
  none_in_front_of p fail (x ∷ xs) ys h none = none_in_front x (xs ++ ys) (fail x (and_parts (p x) (list_all p xs) h).0)

-- a list passes where its parts round an element do
pass_round : (q : ℕ → Bool) (xs : List ℕ) (i : ℕ) → i < length xs → list_all q (take i xs) ≡ true → q (get_or xs i 0) ≡ true → list_all q (drop (i + 1) xs) ≡ true → list_all q xs ≡ true
pass_round q xs i some front here behind =
    let cut : take i xs ++ get_or xs i 0 ∷ drop (i + 1) xs ≡ xs = ap (λ (ys : List ℕ). take i xs ++ ys) (sym (drop_more xs i 0 some)) ∙ take-append-drop i xs in
    let parts : list_all q (take i xs ++ get_or xs i 0 ∷ drop (i + 1) xs) ≡ true =
    list_all-append q (take i xs) (get_or xs i 0 ∷ drop (i + 1) xs) ∙ and_from (list_all q (take i xs)) (q (get_or xs i 0) && list_all q (drop (i + 1) xs)) front (and_from (q (get_or xs i 0)) (list_all q (drop (i + 1) xs)) here behind) in
    ap (list_all q) (sym cut) ∙ parts

module _ (p q : ℕ → Bool) (wider : (c : ℕ) → p c ≡ true → q c ≡ true) (xs : List ℕ) where
  -- parts round the first element that passes p
  pub pass_round_first : list_all q (before_first p xs) ≡ true → list_all q (after_first p xs) ≡ true → list_all q xs ≡ true
  pass_round_first front behind =
      let n = position_or_len p xs in
      ⊎_elim
      (λ (some : n < length xs). pass_round q xs n some front (wider _ (passes_at_first p xs 0 some)) behind)
      (λ (none : length xs ≤ n). ap (list_all q) (sym (take_all n xs none)) ∙ front)
      (cases_lt n (length xs))

  -- parts round the last element that passes p
  pub pass_round_last : list_all q (before_last p xs) ≡ true → list_all q (after_last p xs) ≡ true → list_all q xs ≡ true
  pass_round_last front behind =
      let fails : ℕ → Bool = λ c. not (p c) in
      let s = suffix_len fails xs in
      let len : length (reverse xs) ≡ length xs = length-reverse xs in
      ⊎_elim
      (λ (some : s < length xs).
      let i = length xs - s - 1 in
      let next : length xs - s ≡ i + 1 = omega arith in
      let read : get_or (reverse xs) s 0 ≡ get_or xs (length xs - 1 - s) 0 = get_or-reverse xs s 0 some in
      let place : length xs - 1 - s ≡ i = omega arith in
      let here : p (get_or xs i 0) ≡ true = ap p (ap (λ (k : ℕ). get_or xs k 0) (sym place) ∙ sym read) ∙ passes_at_first p (reverse xs) 0 (omega (arith, len)) in
      pass_round q xs i (omega arith) front (wider _ here) (ap (λ (k : ℕ). list_all q (drop k xs)) (sym next) ∙ behind))
      (λ (none : length xs ≤ s).
      let zero_left : length xs - s ≡ 0 = omega arith in
      ap (λ (k : ℕ). list_all q (drop k xs)) (sym zero_left) ∙ behind)
      (cases_lt s (length xs))
