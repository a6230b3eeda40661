-- Rows of a pool that shall stand, and the flags that show them.
use Rattle.std.specs.Prelude.{ℕ, zero, suc, ◌+◌, ◌-◌, ◌<◌, ◌≤◌, Bool, true, false, ◌&&◌, ◌||◌, not, List, [], ◌∷◌, ◌++◌, Contains, Option, Some, None, IfSome, filter, length, replicate, slice_set, take}
use Rattle.std.specs.List.{All, slice_get, range_with_len}
use Rattle.std.proofs.Common.{◌≡◌, refl, sym, ap, ap₂, ◌∙◌, subst, arith, inl, inr, ◌⊎◌}
use Rattle.std.proofs.lemmas.Bool.{cases_eq, cases_lt, false≢true}
use Rattle.std.proofs.lemmas.List.{get_or-append_right, get_or-replicate, get_or-set_other, get_or-set_same, get_or_append_left, get_or_past, length-set, take_all}
use Rattle.std.proofs.lemmas.List.Elements.{Contains-append_left, Contains-push, Contains-push_cases}
use Rattle.std.proofs.lemmas.Option.{same_Some, slice_get_within}
use Rattle.testing_install.proofs.Sharing.{slice_get_before}
use Rattle.testing_install.specs.Among.{after_change}
use Rattle.testing_install.specs.Closed.{marked}
use Rattle.testing_rules_items.proofs.Members.{none_among}
use Rattle.testing_rules_model.proofs.Least.{from_filter, to_filter}
use Rattle.testing_rules_model.specs.declared.suite.RowIn.{RowIn}
use Rattle.testing_rules_model.specs.InOrder.{AreByKey}
use Rattle.testing_rules_suites.proofs.Arranging.{from_has, to_has}
use Rattle.testing_rules_suites.proofs.Flags.{bounded_members, flags_after, marked_within}
use Rattle.testing_rules_suites.proofs.Lost.{at_place, contains_at}
use Rattle.testing_rules_suites.proofs.Showing.{range_has}
use Rattle.testing_rules_suites.proofs.Suites.{length-after}
use Rattle.testing_rules_suites.specs.steps.Changes.{has}
use Rattle.testing_rules_suites.specs.Present.{IsShown}
use Rattle.testing_rules_suites.specs.steps.Tried.{IsWithin}
use Rattle.testing_rules_suites.specs.steps.Standing.{AreWanted, IsSetFor, is_alone}

-- a flag more

set_keeps : (flags : List Bool) (k j : ℕ) → marked flags j ≡ true → marked (slice_set flags k true) j ≡ true
set_keeps [] k j h = h
set_keeps (x ∷ xs) zero zero h = refl
set_keeps (x ∷ xs) zero (suc j) h = h
set_keeps (x ∷ xs) (suc k) zero h = h
set_keeps (x ∷ xs) (suc k) (suc j) h = set_keeps xs k j h

set_from : (flags : List Bool) (k j : ℕ) → marked (slice_set flags k true) j ≡ true → (j ≡ k) ⊎ (marked flags j ≡ true)
set_from flags k j h = elim (cases_eq j k) [
  | inl e ↦ inl e
  | inr other ↦ inr (sym (get_or-set_other flags k j true false other) ∙ h)
]

-- one row more shall stand

pub wanted_none : (pool : List RowIn) (flags : List Bool) → length flags ≡ length pool → ((k : ℕ) → marked flags k ≡ false) → AreWanted pool [] flags []
wanted_none pool flags long none = record {
  long = long;
  among = λ k r at up. absurd (false≢true (sym (none k) ∙ up));
  lacking_among = λ r c. none_among r c;
  each = λ r c. none_among r c;
}

pub wanted_at : (pool rows : List RowIn) (flags : List Bool) (lacking : List RowIn) (k : ℕ) (r : RowIn) → slice_get pool k ≡ Some r → AreWanted pool rows flags lacking → AreWanted pool (rows ++ r ∷ []) (slice_set flags k true) lacking
wanted_at pool rows flags lacking k r at w = record {
  long = length-set flags k true ∙ w.long;
  among = λ j q here up. elim (set_from flags k j up) [
    | inl e ↦ subst (Contains (rows ++ r ∷ [])) (same_Some r q (sym at ∙ ap (slice_get pool) (sym e) ∙ here)) (Contains-push rows r)
    | inr was ↦ Contains-append_left rows (r ∷ []) q (w.among j q here was)
  ];
  lacking_among = λ q c. Contains-append_left rows (r ∷ []) q (w.lacking_among q c);
  each = λ q c. elim (Contains-push_cases rows r q c) [
    | inl before ↦ elim (w.each q before) [
      | inl is ↦ inl (is.0, is.1, set_keeps flags k is.0 is.2)
      | inr lacks ↦ inr lacks
    ]
    | inr own ↦ inl (k, at ∙ ap Some own, get_or-set_same flags k true false (omega (arith, w.long, slice_get_within pool k r at)))
  ];
}

pub wanted_lacking : (pool rows : List RowIn) (flags : List Bool) (lacking : List RowIn) (r : RowIn) → AreWanted pool rows flags lacking → AreWanted pool (rows ++ r ∷ []) flags (lacking ++ r ∷ [])
wanted_lacking pool rows flags lacking r w = record {
  long = w.long;
  among = λ j q here up. Contains-append_left rows (r ∷ []) q (w.among j q here up);
  lacking_among = λ q c. elim (Contains-push_cases lacking r q c) [
    | inl before ↦ Contains-append_left rows (r ∷ []) q (w.lacking_among q before)
    | inr own ↦ subst (Contains (rows ++ r ∷ [])) own (Contains-push rows r)
  ];
  each = λ q c. elim (Contains-push_cases rows r q c) [
    | inl before ↦ elim (w.each q before) [
      | inl is ↦ inl is
      | inr lacks ↦ inr (Contains-append_left lacking (r ∷ []) q lacks)
    ]
    | inr own ↦ inr (subst (Contains (lacking ++ r ∷ [])) own (Contains-push lacking r))
  ];
}

-- what `resize` gives
pub raised_to : (xs ys : List Bool) (n len : ℕ) → ys ≡ take n xs ++ replicate (n - len) true → len ≡ length xs → length xs ≤ n → ys ≡ xs ++ replicate (n - length xs) true
raised_to xs ys n len e long h = e ∙ ap (λ zs. zs ++ replicate (n - len) true) (take_all n xs h) ∙ ap (λ l. xs ++ replicate (n - l) true) long

pub no_flag_set : (n k : ℕ) → marked (replicate n false) k ≡ false
no_flag_set zero k = refl
no_flag_set (suc n) zero = refl
no_flag_set (suc n) (suc k) = no_flag_set n k

-- a row that was found has a flag
pub found_within : (pool : List RowIn) (flags : List Bool) (r : RowIn) (place : Option ℕ) → length flags ≡ length pool → IfSome place (λ k. slice_get pool k ≡ Some r) → IfSome place (λ k. k < length flags)
found_within pool flags r None long at = tt
found_within pool flags r (Some k) long at = omega (arith, long, slice_get_within pool k r at)

-- the rows that a pool doesn't have come behind its own, and stand

module _ (pool rows : List RowIn) (flags : List Bool) (lacking : List RowIn) (w : AreWanted pool rows flags lacking) where
  abbrev longer : List RowIn
  longer = pool ++ lacking

  abbrev raised : List Bool
  raised = flags ++ replicate (length lacking) true

  raised_before : (k : ℕ) → k < length pool → marked raised k ≡ marked flags k
  raised_before k h = get_or_append_left flags (replicate (length lacking) true) false k (omega (arith, h, w.long))

  raised_behind : (k i : ℕ) → k ≡ length pool + i → i < length lacking → marked raised k ≡ true
  raised_behind k i e h =
      get_or-append_right flags (replicate (length lacking) true) (length pool) k false w.long (omega (arith, e))
      ∙ get_or-replicate (length lacking) (k - length pool) true false (omega (arith, e, h))

  placed : (r : RowIn) → IsSetFor pool flags r ⊎ Contains lacking r → (k : ℕ) × (slice_get longer k ≡ Some r) × (marked raised k ≡ true)
  placed r (inl is) =
      let within = slice_get_within pool is.0 r is.1 in
      (is.0, slice_get_before pool lacking is.0 within ∙ is.1, raised_before is.0 within ∙ is.2)
  placed r (inr c) =
      let at = at_place lacking r c in
      (length pool + c.0, ahead pool lacking c.0 r (length pool + c.0) refl at, raised_behind (length pool + c.0) c.0 refl (slice_get_within lacking c.0 r at))
    where
      ahead : {A : Type 0} (xs ys : List A) (i : ℕ) (x : A) (k : ℕ) → k ≡ length xs + i → slice_get ys i ≡ Some x → slice_get (xs ++ ys) k ≡ Some x
      ahead [] ys i x k e at = ap (slice_get ys) (let same : k ≡ i = omega (arith, e) in same) ∙ at
      ahead (z ∷ xs) ys i x zero e at = absurd (omega (arith, e))
      ahead (z ∷ xs) ys i x (suc k) e at = ahead xs ys i x k (omega (arith, e)) at

  from_place : (k : ℕ) (r : RowIn) → slice_get longer k ≡ Some r → marked raised k ≡ true → (k < length pool) ⊎ (length pool ≤ k) → Contains rows r
  from_place k r at up (inl before) = w.among k r (sym (slice_get_before pool lacking k before) ∙ at) (sym (raised_before k before) ∙ up)
  from_place k r at up (inr later) = w.lacking_among r (behind pool lacking k r later at)
    where
      behind : {A : Type 0} (xs ys : List A) (k : ℕ) (x : A) → length xs ≤ k → slice_get (xs ++ ys) k ≡ Some x → Contains ys x
      behind [] ys k x h at = contains_at ys k x at
      behind (z ∷ xs) ys zero x h at = absurd (omega (arith, h))
      behind (z ∷ xs) ys (suc k) x h at = behind xs ys k x (omega (arith, h)) at

  pub wanted_shown : AreByKey rows → IsShown longer (marked raised) rows
  wanted_shown by_key = record {
    by_key = by_key;
    within = λ r c. placed r (w.each r c);
    all = λ k r at up. from_place k r at up (cases_lt k (length pool));
  }

-- the same rows are shown by flags that are the same at each place
pub shown_as : (pool : List RowIn) (flags others : ℕ → Bool) (rows : List RowIn) → ((k : ℕ) → others k ≡ flags k) → IsShown pool flags rows → IsShown pool others rows
shown_as pool flags others rows same shown = record {
  by_key = shown.by_key;
  within = λ r c. let is = shown.within r c in (is.0, is.1, same is.0 ∙ is.2);
  all = λ k r at up. shown.all k r at (sym (same k) ∙ up);
}

-- a change to other flags

left_of_both : (a b : Bool) → (a && b) ≡ true → a ≡ true
left_of_both true b h = refl
left_of_both false b h = absurd (false≢true h)

alone_within : (flags others : List Bool) (k : ℕ) → is_alone flags others k ≡ true → k < length flags
alone_within flags others k h = marked_within flags k (left_of_both (marked flags k) (not (marked others k)) h)

has_those : (flags others : List Bool) (k : ℕ) (a b : Bool) → is_alone flags others k ≡ a → has (filter (is_alone flags others) (range_with_len 0 (length flags))) k ≡ b → b ≡ a
has_those flags others k true b e h =
    sym h ∙ to_has (filter (is_alone flags others) (range_with_len 0 (length flags))) k
    (to_filter (is_alone flags others) (range_with_len 0 (length flags)) k (range_has (length flags) k (alone_within flags others k e)) e)
has_those flags others k false true e h =
    absurd (false≢true (sym e ∙ (from_filter (is_alone flags others) (range_with_len 0 (length flags)) k (from_has (filter (is_alone flags others) (range_with_len 0 (length flags))) k h)).1))
has_those flags others k false false e h = refl

has_alone : (flags others : List Bool) (places : List ℕ) → places ≡ filter (is_alone flags others) (range_with_len 0 (length flags)) → (k : ℕ) → has places k ≡ is_alone flags others k
has_alone flags others places are k = ap (λ ks. has ks k) are ∙ has_those flags others k (is_alone flags others k) (has (filter (is_alone flags others) (range_with_len 0 (length flags))) k) refl refl

within_alone : (flags others : List Bool) (places : List ℕ) (n : ℕ) → length flags ≡ n → places ≡ filter (is_alone flags others) (range_with_len 0 (length flags)) → All (λ k. k < n) places
within_alone flags others places n long are = bounded_members n places (λ k c.
    let is = (from_filter (is_alone flags others) (range_with_len 0 (length flags)) k (subst (λ ks. Contains ks k) are c)).1 in
    omega (arith, long, alone_within flags others k is))

becomes : (f s : Bool) → ((f && not s) || (s && not (s && not f))) ≡ f
becomes true true = refl
becomes true false = refl
becomes false true = refl
becomes false false = refl

module _ (pool : List RowIn) (stands flags : List Bool) (leaving coming : List ℕ) (count : length stands ≡ length pool) (long : length flags ≡ length pool)
    (leave : leaving ≡ filter (is_alone stands flags) (range_with_len 0 (length stands))) (come : coming ≡ filter (is_alone flags stands) (range_with_len 0 (length flags))) where
  pub alone_change : IsWithin pool leaving coming
  alone_change = record {
    leaving_within = within_alone stands flags leaving (length pool) count leave;
    coming_within = within_alone flags stands coming (length pool) long come;
  }

  at_row : (k : ℕ) → k < length stands → marked (after_change leaving coming stands) k ≡ marked flags k
  at_row k h =
      flags_after leaving coming stands k h
      ∙ ap₂ (λ a b. a || (marked stands k && not b)) (has_alone flags stands coming come k) (has_alone stands flags leaving leave k)
      ∙ becomes (marked flags k) (marked stands k)

  past : (k : ℕ) → length stands ≤ k → marked (after_change leaving coming stands) k ≡ marked flags k
  past k h =
      get_or_past (after_change leaving coming stands) k false (omega (arith, h, length-after leaving coming stands))
      ∙ sym (get_or_past flags k false (omega (arith, h, count, long)))

  pub alone_flags : (k : ℕ) → marked (after_change leaving coming stands) k ≡ marked flags k
  alone_flags k = elim (cases_lt k (length stands)) [ inl h ↦ at_row k h | inr h ↦ past k h ]
