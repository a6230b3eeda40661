-- Lists cut at the elements that pass a test.
use Rattle.std.proofs.Common.{◌≡◌, ℕ, suc, ◌+◌, ◌<◌, ◌≤◌, Bool, true, false, cond, not, List, [], ◌∷◌, ◌++◌, length, take, drop, get_or, refl, sym, ap, subst, ◌∙◌, ⊎_elim, one-add, arith}
use Rattle.std.specs.List.{slice_split, onto_first, before_first, position_or_len, prefix_len, take_while, list_all, list_any, filter}
use Rattle.std.proofs.lemmas.Bool.{cases_Bool, cases_lt, cond-true, cond-false, and_parts, or_left, or_right, not_from_true, not_from_false}
use Rattle.std.proofs.lemmas.List.Sums.{take_while-cons, prefix_len-le-length, position_or_len_is}
use Rattle.std.proofs.lemmas.List.{take-append-drop, length-take-le, take_all}
use Rattle.std.proofs.Math.Seq.{take-append-add}
use Rattle.deb_control.specs.Paragraphs.{not_empty}
use Rattle.std.proofs.lemmas.List.Splits.{slice_split-cons_yes, slice_split-cons_no}

-- the parts are never none, so the first of them takes x
onto_first_head : {X : Type 0} (x : X) (parts : List (List X)) (b : List X) → parts ≡ b ∷ drop 1 parts → onto_first x parts ≡ (x ∷ b) ∷ drop 1 (onto_first x parts)
onto_first_head x [] b e = cc
onto_first_head x (part ∷ parts) b e = cc

onto_first-append : {X : Type 0} (x : X) (parts more : List (List X)) (b : List X) → parts ≡ b ∷ drop 1 parts → onto_first x (parts ++ more) ≡ onto_first x parts ++ more
onto_first-append x [] more b e = cc
onto_first-append x (part ∷ parts) more b e = refl

module _ {X : Type 0} (q : X → Bool) where
  -- what is left after the longest front that passes
  pub left_after_yes : (x : X) (xs : List X) → q x ≡ true → drop (prefix_len q (x ∷ xs)) (x ∷ xs) ≡ drop (prefix_len q xs) xs
  left_after_yes x xs h = ap (λ b. drop (cond b (1 + prefix_len q xs) 0) (x ∷ xs)) h ∙ ap (λ (n : ℕ). drop n (x ∷ xs)) (one-add (prefix_len q xs))

  pub left_after_no : (x : X) (xs : List X) → q x ≡ false → drop (prefix_len q (x ∷ xs)) (x ∷ xs) ≡ x ∷ xs
  left_after_no x xs h = ap (λ b. drop (cond b (1 + prefix_len q xs) 0) (x ∷ xs)) h

  pub take_while_yes : (x : X) (xs : List X) → q x ≡ true → take_while q (x ∷ xs) ≡ x ∷ take_while q xs
  take_while_yes x xs h = take_while-cons q x xs ∙ cond-true (q x) _ _ h

  pub take_while_no : (x : X) (xs : List X) → q x ≡ false → take_while q (x ∷ xs) ≡ []
  take_while_no x xs h = take_while-cons q x xs ∙ cond-false (q x) _ _ h

  -- a front that passes is taken whole
  pub take_while-append : (xs ys : List X) → list_all q xs ≡ true → take_while q (xs ++ ys) ≡ xs ++ take_while q ys
  take_while-append [] ys h = refl
  take_while-append (x ∷ xs) ys h =
      let both = and_parts (q x) (list_all q xs) h in
      take_while_yes x (xs ++ ys) both.0 ∙ ap (λ zs. x ∷ zs) (take_while-append xs ys both.1)

  pub left_after-append : (xs ys : List X) → list_all q xs ≡ true → drop (prefix_len q (xs ++ ys)) (xs ++ ys) ≡ drop (prefix_len q ys) ys
  left_after-append [] ys h = refl
  left_after-append (x ∷ xs) ys h =
      let both = and_parts (q x) (list_all q xs) h in
      left_after_yes x (xs ++ ys) both.0 ∙ left_after-append xs ys both.1

  pub take_while_all : (xs : List X) → list_all q xs ≡ true → take_while q xs ≡ xs
  take_while_all [] h = refl
  take_while_all (x ∷ xs) h =
      let both = and_parts (q x) (list_all q xs) h in
      take_while_yes x xs both.0 ∙ ap (λ zs. x ∷ zs) (take_while_all xs both.1)

  pub left_after_all : (xs : List X) → list_all q xs ≡ true → drop (prefix_len q xs) xs ≡ []
  left_after_all [] h = refl
  left_after_all (x ∷ xs) h =
      let both = and_parts (q x) (list_all q xs) h in
      left_after_yes x xs both.0 ∙ left_after_all xs both.1

module _ {X : Type 0} (p : X → Bool) where
  before_first_yes : (x : X) (xs : List X) → p x ≡ true → before_first p (x ∷ xs) ≡ []
  before_first_yes x xs h = ap (λ b. take (cond (not b) (1 + position_or_len p xs) 0) (x ∷ xs)) h

  before_first_no : (x : X) (xs : List X) → p x ≡ false → before_first p (x ∷ xs) ≡ x ∷ before_first p xs
  before_first_no x xs h = ap (λ b. take (cond (not b) (1 + position_or_len p xs) 0) (x ∷ xs)) h ∙ ap (λ (n : ℕ). take n (x ∷ xs)) (one-add (position_or_len p xs))

  -- the first part is what stands before the first element that passes
  pub split_head : (xs : List X) → slice_split p xs ≡ before_first p xs ∷ drop 1 (slice_split p xs)
  split_head [] = refl
  split_head (x ∷ xs) = ⊎_elim
      (λ yes. rw (slice_split-cons_yes p x xs yes, before_first_yes x xs yes) refl)
      (λ no. rw (slice_split-cons_no p x xs no, before_first_no x xs no) (onto_first_head x (slice_split p xs) (before_first p xs) (split_head xs)))
      (cases_Bool (p x))

  -- cut at an element that passes, a list is in two
  pub split_append : (xs : List X) (y : X) (ys : List X) → p y ≡ true → slice_split p (xs ++ y ∷ ys) ≡ slice_split p xs ++ slice_split p ys
  split_append [] y ys h = cond-true (p y) _ _ h
  split_append (x ∷ xs) y ys h = ⊎_elim
      (λ yes. rw (slice_split-cons_yes p x (xs ++ y ∷ ys) yes, slice_split-cons_yes p x xs yes, split_append xs y ys h) refl)
      (λ no. rw (slice_split-cons_no p x (xs ++ y ∷ ys) no, slice_split-cons_no p x xs no, split_append xs y ys h) (onto_first-append x (slice_split p xs) (slice_split p ys) (before_first p xs) (split_head xs)))
      (cases_Bool (p x))

  -- what stands before the first element that passes is one part
  pub split_before_first : (xs : List X) → slice_split p (before_first p xs) ≡ before_first p xs ∷ []
  split_before_first [] = refl
  split_before_first (x ∷ xs) = ⊎_elim
      (λ yes. rw (before_first_yes x xs yes) refl)
      (λ no. rw (before_first_no x xs no, slice_split-cons_no p x (before_first p xs) no, split_before_first xs) refl)
      (cases_Bool (p x))

  -- a list in which no element passes is one part
  pub split_none : (xs : List X) → position_or_len p xs ≡ length xs → slice_split p xs ≡ xs ∷ []
  split_none xs over = let whole : before_first p xs ≡ xs = take_all (position_or_len p xs) xs (omega (arith, over)) in subst (λ (t : List X). slice_split p t ≡ t ∷ []) whole (split_before_first xs)

  -- a list is cut once at the first element that passes
  pub any_within : (xs : List X) → position_or_len p xs < length xs → list_any p xs ≡ true
  any_within [] h = absurd (omega arith)
  any_within (x ∷ xs) h = ⊎_elim
      (λ yes. or_left (p x) _ yes)
      (λ no. or_right (p x) _ (any_within xs (let h' : cond (not (p x)) (1 + position_or_len p xs) 0 < suc (length xs) = h in let e : 1 + position_or_len p xs < suc (length xs) = rw no at h' in omega arith)))
      (cases_Bool (p x))

  pub none_within : (xs : List X) → position_or_len p xs ≡ length xs → list_any p xs ≡ false
  none_within [] h = refl
  none_within (x ∷ xs) h = ⊎_elim
      (λ yes. let h' : cond (not (p x)) (1 + position_or_len p xs) 0 ≡ suc (length xs) = h in let e : 0 ≡ suc (length xs) = rw yes at h' in absurd (omega arith))
      (λ no. let h' : cond (not (p x)) (1 + position_or_len p xs) 0 ≡ suc (length xs) = h in let e : 1 + position_or_len p xs ≡ suc (length xs) = rw no at h' in rw no (none_within xs (omega arith)))
      (cases_Bool (p x))

  -- the parts after the first are those of the rest, but for an empty one in front
  drop_onto_first : (x : X) (parts : List (List X)) → drop 1 (onto_first x parts) ≡ drop 1 parts
  drop_onto_first x [] = refl
  drop_onto_first x (part ∷ parts) = refl

  pub rest_parts : (xs : List X) → filter not_empty (drop 1 (slice_split p xs)) ≡ filter not_empty (slice_split p (drop (prefix_len (λ x. not (p x)) xs) xs))
  rest_parts [] = refl
  rest_parts (x ∷ xs) = ⊎_elim
      (λ yes. rw (left_after_no (λ x. not (p x)) x xs (not_from_true _ yes), slice_split-cons_yes p x xs yes) refl)
      (λ no. rw (left_after_yes (λ x. not (p x)) x xs (not_from_false _ no), slice_split-cons_no p x xs no, drop_onto_first x (slice_split p xs)) (rest_parts xs))
      (cases_Bool (p x))

  -- the runs between the elements that pass: the first run, if it isn't empty, and those of the rest
  pub first_run : (xs : List X) → not_empty (take_while (λ x. not (p x)) xs) ≡ true → filter not_empty (slice_split p xs) ≡ take_while (λ x. not (p x)) xs ∷ filter not_empty (slice_split p (drop (prefix_len (λ x. not (p x)) xs) xs))
  first_run xs h = ap (filter not_empty) (split_head xs) ∙ cond-true _ _ _ h ∙ ap (λ more. take_while (λ x. not (p x)) xs ∷ more) (rest_parts xs)

-- a longer front
pub take_sum : {X : Type 0} (xs : List X) (m n : ℕ) → m ≤ length xs → take (m + n) xs ≡ take m xs ++ take n (drop m xs)
take_sum xs m n h =
    let e : length (take m xs) ≡ m = length-take-le m xs h in
    ap (λ ys. take (m + n) ys) (sym (take-append-drop m xs)) ∙ ap (λ (k : ℕ). take (k + n) (take m xs ++ drop m xs)) (sym e) ∙ take-append-add (take m xs) (drop m xs) n

-- the first place that passes, where a search began at a place before which none does
pub found_from : {X : Type 0} (p : X → Bool) (xs : List X) (d : X) (from n : ℕ) → n ≤ length xs → ((k : ℕ) → k < from → p (get_or xs k d) ≡ false) → ((k : ℕ) → from ≤ k → k < n → p (get_or xs k d) ≡ false) → (n < length xs → p (get_or xs n d) ≡ true)
    → n ≡ position_or_len p xs
found_from p xs d from n within before after ends =
    sym (position_or_len_is p xs n d within (λ k below. ⊎_elim (λ (less : k < from). before k less) (λ (more : from ≤ k). after k more below) (cases_lt k from)) ends)

-- a place that isn't the length is within
pub found_within : {X : Type 0} (p : X → Bool) (xs : List X) (n : ℕ) → n ≡ position_or_len p xs → (n ≡ length xs → ⊥) → n < length xs
found_within p xs n at other = omega (arith, prefix_len-le-length (λ x. not (p x)) xs)
