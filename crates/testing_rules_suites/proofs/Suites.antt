-- The suites of the architectures, before and after a change.
use Rattle.std.specs.Prelude.{ℕ, zero, suc, ◌+◌, ◌<◌, ◌≤◌, Bool, true, false, ◌&&◌, ◌||◌, not, nat_lt, List, [], ◌∷◌, ◌++◌, Contains, Option, Some, None, map, filter, length, replicate, slice_set}
use Rattle.std.specs.List.{All, slice_get, list_any, range_with_len}
use Rattle.std.specs.Option.{option_map_or}
use Rattle.std.specs.Str.{bytes_eq}
use Rattle.std.proofs.Common.{◌≡◌, refl, sym, ap, ap₂, ◌∙◌, subst, arith, ⊎_elim, inl, inr, ◌⊎◌}
use Rattle.std.proofs.lemmas.Bool.{cases_Bool, cases_eq, cases_lt, false≢true}
use Rattle.std.proofs.lemmas.Bool.Decides.{nat_tests}
use Rattle.std.proofs.lemmas.List.FromFn.{length-range_with_len, get_or-range_with_len}
use Rattle.std.proofs.lemmas.List.{length-set, get_or-replicate}
use Rattle.std.proofs.lemmas.Option.{same_Some, slice_get_within}
use Rattle.testing_install.specs.Among.{after_change, with_all}
use Rattle.testing_install.specs.Closed.{marked}
use Rattle.testing_install.proofs.Marking.{length-with_all}
use Rattle.testing_rules_model.specs.declared.suite.RowIn.{RowIn}
use Rattle.std.proofs.lemmas.Slice.Eq.{bytes_eq-Decides}
use Rattle.testing_install.proofs.Counting.{slice_get_some}
use Rattle.testing_rules_model.specs.declared.facts.UploadIn.{UploadIn}
use Rattle.testing_rules_suites.specs.steps.Changes.{has, stands_of, stands_for, gives_way_to, IsMoveOf}
use Rattle.testing_rules_model.specs.Moves.{group_sources}
use Rattle.testing_rules_model.specs.steps.Moves.{is_row_on}
use Rattle.testing_rules_suites.specs.Present.{IsShown}
use Rattle.testing_rules_suites.specs.steps.PresentSteps.{IsOn, IsOver, IsSuiteOn, AreOver, AreSuites}
use Rattle.testing_rules_suites.specs.steps.ArchRows.{ArchRows, IsAfter, package_at}
use Rattle.testing_rules_suites.specs.steps.Tried.{IsWithin, IsRemovalOf, Tells}
use Rattle.testing_rules_suites.specs.steps.Trials.{IsFirstLost}
use Rattle.testing_rules_items.specs.Words.{Text}
use Rattle.testing_rules_suites.proofs.Arranging.{from_has, to_has, at_some_of}
use Rattle.testing_rules_suites.proofs.Carried.{has_number}
use Rattle.testing_rules_suites.proofs.Changing.{coming_within, row_that_stands, row_that_gives_way}
use Rattle.testing_rules_suites.proofs.Flags.{flags_after, bounded_members, bounded_filter}
use Rattle.testing_rules_suites.proofs.Judging.{same_bit}
use Rattle.testing_rules_model.proofs.Least.{from_filter, to_filter}
use Rattle.testing_rules_suites.proofs.Lost.{any_of}
use Rattle.testing_rules_items.proofs.Members.{none_among}
use Rattle.testing_rules_suites.proofs.Parts.{row_of_number}

-- Elements of a list in which one is set.

pub set_here : {A : Type 0} (xs : List A) (i : ℕ) (x y : A) → slice_get (slice_set xs i x) i ≡ Some y → x ≡ y
set_here [] i x y e = let no : None ≡ Some y = e in cc
set_here (z ∷ xs) zero x y e = same_Some x y e
set_here (z ∷ xs) (suc i) x y e = set_here xs i x y e

pub set_elsewhere : {A : Type 0} (xs : List A) (i k : ℕ) (x : A) → (k ≡ i → ⊥) → slice_get (slice_set xs i x) k ≡ slice_get xs k
set_elsewhere [] i k x n = refl
set_elsewhere (z ∷ xs) zero zero x n = absurd (n refl)
set_elsewhere (z ∷ xs) zero (suc k) x n = refl
set_elsewhere (z ∷ xs) (suc i) zero x n = refl
set_elsewhere (z ∷ xs) (suc i) (suc k) x n = set_elsewhere xs i k x (λ e. n (ap suc e))

pub length-after : (leaving coming : List ℕ) (flags : List Bool) → length (after_change leaving coming flags) ≡ length flags
length-after leaving coming flags = length-with_all true coming (with_all false leaving flags) ∙ length-with_all false leaving flags

-- A change on one architecture.

-- where its rows leave and come by their numbers, those of them are there that stand after the change
pub suite_after : (arch : ℕ) (pool : List RowIn) (old new : ArchRows) (leaving coming : List ℕ) → new.places ≡ old.places → new.suite.rows ≡ old.suite.rows
    → IsAfter old leaving coming new.suite.there
    → (stands : List Bool) → length stands ≡ length pool → IsSuiteOn arch pool stands old → IsSuiteOn arch pool (after_change leaving coming stands) new
suite_after arch pool old new leaving coming places rows after stands long was = record {
  over = record {
    places = places ∙ was.over.places;
    rows = ap (map (λ b. Some b)) rows ∙ was.over.rows ∙ ap (map (package_at pool)) (sym places);
    long = ap length after.exact ∙ length-after after.left after.came old.suite.there ∙ was.over.long ∙ ap length (sym places);
  };
  stand = λ i k at.
      let here : slice_get old.places i ≡ Some k = ap (λ ks. slice_get ks i) (sym places) ∙ at in
      let r = row_of_number arch pool old was.over i k here in
      ap (λ fs. marked fs i) after.exact
      ∙ flags_after after.left after.came old.suite.there i (omega (arith, was.over.long, slice_get_within old.places i k here))
      ∙ ap₂ (λ c t. c || t) (has_number old.places coming after.came after.came_are i k here)
      (ap₂ (λ t l. t && not l) (was.stand i k here) (has_number old.places leaving after.left after.left_are i k here))
      ∙ sym (flags_after leaving coming stands k (omega (arith, slice_get_within pool k r.0 r.1, long)));
}

-- A change on each architecture in turn: the suites of the first ones are changed.

pub record AreChangedTo (olds news : List ArchRows) (leaving coming : List ℕ) (n : ℕ) : Type 0 where
  pub count : length news ≡ length olds
  pub done : (pool : List RowIn) (stands : List Bool) → length stands ≡ length pool → AreSuites pool stands olds
      → (k : ℕ) (suite : ArchRows) → slice_get news k ≡ Some suite → k < n → IsSuiteOn k pool (after_change leaving coming stands) suite
  pub left : (pool : List RowIn) (stands : List Bool) → length stands ≡ length pool → AreSuites pool stands olds
      → (k : ℕ) (suite : ArchRows) → slice_get news k ≡ Some suite → n ≤ k → IsSuiteOn k pool stands suite

pub changed_none : (olds : List ArchRows) (leaving coming : List ℕ) → AreChangedTo olds olds leaving coming 0
changed_none olds leaving coming = record {
  count = refl;
  done = λ pool stands long are k suite at h. absurd (omega (arith, h));
  left = λ pool stands long are k suite at h. are.each k suite at;
}

module _ (olds news : List ArchRows) (leaving coming : List ℕ) (n : ℕ) (to : AreChangedTo olds news leaving coming n)
    (old new : ArchRows) (at_n : slice_get news n ≡ Some old)
    (step : (pool : List RowIn) (stands : List Bool) → length stands ≡ length pool → IsSuiteOn n pool stands old → IsSuiteOn n pool (after_change leaving coming stands) new) where
  elsewhere : (k : ℕ) (suite : ArchRows) → (k ≡ n → ⊥) → slice_get (slice_set news n new) k ≡ Some suite → slice_get news k ≡ Some suite
  elsewhere k suite apart at = sym (set_elsewhere news n k new apart) ∙ at

  here : (k : ℕ) (suite : ArchRows) → k ≡ n → slice_get (slice_set news n new) k ≡ Some suite → new ≡ suite
  here k suite e at = set_here news n new suite (ap (slice_get (slice_set news n new)) (sym e) ∙ at)

  done_each : (pool : List RowIn) (stands : List Bool) (long : length stands ≡ length pool) (are : AreSuites pool stands olds) (k : ℕ) (suite : ArchRows)
      → slice_get (slice_set news n new) k ≡ Some suite → k < n + 1 → (k ≡ n) ⊎ (k ≡ n → ⊥) → IsSuiteOn k pool (after_change leaving coming stands) suite
  done_each pool stands long are k suite at h (inl e) =
      let changed = step pool stands long (to.left pool stands long are n old at_n (omega arith)) in
      subst (λ s. IsSuiteOn k pool (after_change leaving coming stands) s) (here k suite e at)
      (subst (λ p. IsSuiteOn p pool (after_change leaving coming stands) new) (sym e) changed)
  done_each pool stands long are k suite at h (inr apart) = to.done pool stands long are k suite (elsewhere k suite apart at) (below k n h apart)
    where
      below : (k n : ℕ) → k < n + 1 → (k ≡ n → ⊥) → k < n
      below k n h apart = elim (cases_lt k n) [ inl l ↦ l | inr g ↦ absurd (apart (omega (arith, h, g))) ]

  pub changed_more : AreChangedTo olds (slice_set news n new) leaving coming (n + 1)
  changed_more = record {
    count = length-set news n new ∙ to.count;
    done = λ pool stands long are k suite at h. done_each pool stands long are k suite at h (cases_eq k n);
    left = λ pool stands long are k suite at h. to.left pool stands long are k suite (elsewhere k suite (λ e. absurd (omega (arith, e, h))) at) (omega (arith, h));
  }

pub changed_all : (olds news : List ArchRows) (leaving coming : List ℕ) (n : ℕ) → AreChangedTo olds news leaving coming n → length olds ≤ n
    → (pool : List RowIn) (stands : List Bool) → length stands ≡ length pool → AreSuites pool stands olds → AreSuites pool (after_change leaving coming stands) news
changed_all olds news leaving coming n to h pool stands long are = record {
  each = λ k suite at. to.done pool stands long are k suite at (omega (arith, slice_get_within news k suite at, to.count, h));
}

-- Suites with no row there.

no_flag : (n k : ℕ) → marked (replicate n false) k ≡ false
no_flag n k = elim (cases_lt k n) [
  | inl h ↦ get_or-replicate n k false false h
  | inr h ↦ past n k h
]
  where
    past : (n k : ℕ) → n ≤ k → marked (replicate n false) k ≡ false
    past zero k h = refl
    past (suc n) zero h = absurd (omega (arith, h))
    past (suc n) (suc k) h = past n k (omega (arith, h))

length-copies : {A : Type 0} (n : ℕ) (x : A) → length (replicate n x) ≡ n
length-copies zero x = refl
length-copies (suc n) x = ap suc (length-copies n x)

-- where none of its rows is there, it is the suite of its architecture before any row stands
pub suite_before : (arch : ℕ) (pool : List RowIn) (suite : ArchRows) → IsOver arch pool suite → suite.suite.there ≡ replicate (length suite.places) false
    → IsSuiteOn arch pool (replicate (length pool) false) suite
suite_before arch pool suite over none = record {
  over = over;
  stand = λ i k at. ap (λ fs. marked fs i) none ∙ no_flag (length suite.places) i ∙ sym (no_flag (length pool) k);
}

pub are_none : (pool : List RowIn) (stands : List Bool) → AreSuites pool stands []
are_none pool stands = record { each = λ arch suite at. let no : None ≡ Some suite = at in cc }

pushed_at : {A : Type 0} (xs : List A) (x : A) (k : ℕ) (y : A) → slice_get (xs ++ x ∷ []) k ≡ Some y → (slice_get xs k ≡ Some y) ⊎ ((k ≡ length xs) × (x ≡ y))
pushed_at [] x zero y e = inr (refl, same_Some x y e)
pushed_at [] x (suc k) y e = let no : None ≡ Some y = e in cc
pushed_at (z ∷ xs) x zero y e = inl e
pushed_at (z ∷ xs) x (suc k) y e = ⊎_elim (λ before. inl before) (λ last. inr (ap suc last.0, last.1)) (pushed_at xs x k y e)

-- the suite of one architecture more
pub are_more : (pool : List RowIn) (stands : List Bool) (suites : List ArchRows) (arch : ℕ) (new : ArchRows) → AreSuites pool stands suites → length suites ≡ arch
    → IsSuiteOn arch pool stands new → AreSuites pool stands (suites ++ new ∷ [])
are_more pool stands suites arch new are count own = record {
  each = λ k suite at. elim (pushed_at suites new k suite at) [
    | inl before ↦ are.each k suite before
    | inr last ↦ subst (λ s. IsSuiteOn k pool stands s) last.1 (subst (λ a. IsSuiteOn a pool stands new) (sym (last.0 ∙ count)) own)
  ];
}

-- What stands.

-- the same flags show the same rows
pub shown-alike : (pool : List RowIn) (stands others : ℕ → Bool) (rows : List RowIn) → IsShown pool stands rows
    → ((k : ℕ) → k < length pool → others k ≡ stands k) → IsShown pool others rows
shown-alike pool stands others rows shown same = record {
  by_key = shown.by_key;
  within = λ r c. let w = shown.within r c in (w.0, w.1, same w.0 (slice_get_within pool w.0 r w.1) ∙ w.2);
  all = λ k r at h. shown.all k r at (sym (same k (slice_get_within pool k r at)) ∙ h);
}

-- each suite that is that of its architecture has the pool's rows on it
pub over_of : (pool : List RowIn) (stands : List Bool) (suites : List ArchRows) → AreSuites pool stands suites → AreOver pool suites
over_of pool stands suites are = record { each = λ arch suite at. (are.each arch suite at).over }

-- A change tried on each architecture.

-- flags for the pool's rows: which of them stand and are on the architecture
abbrev stood_on : ℕ → List RowIn → List Bool → List Bool
stood_on arch [] stands = []
stood_on arch (r ∷ pool) [] = false ∷ stood_on arch pool []
stood_on arch (r ∷ pool) (b ∷ stands) = (b && is_row_on arch r) ∷ stood_on arch pool stands

length-stood : (arch : ℕ) (pool : List RowIn) (stands : List Bool) → length (stood_on arch pool stands) ≡ length pool
length-stood arch [] stands = refl
length-stood arch (r ∷ pool) [] = ap suc (length-stood arch pool [])
length-stood arch (r ∷ pool) (b ∷ stands) = ap suc (length-stood arch pool stands)

stood_at : (arch : ℕ) (pool : List RowIn) (stands : List Bool) (k : ℕ) (r : RowIn) → slice_get pool k ≡ Some r → marked (stood_on arch pool stands) k ≡ (marked stands k && is_row_on arch r)
stood_at arch [] stands k r at = let no : None ≡ Some r = at in cc
stood_at arch (q ∷ pool) [] zero r at = refl
stood_at arch (q ∷ pool) [] (suc k) r at = stood_at arch pool [] k r at
stood_at arch (q ∷ pool) (b ∷ stands) zero r at = ap (λ x. b && is_row_on arch x) (same_Some q r at)
stood_at arch (q ∷ pool) (b ∷ stands) (suc k) r at = stood_at arch pool stands k r at

pub told_at : (pool : List RowIn) (stands : List Bool) (suites : List ArchRows) (leaving coming : List ℕ) (tells : ℕ → Option Text) (arch : ℕ) (name : Option Text)
    → AreSuites pool stands suites → Tells pool stands leaving coming tells → arch < length suites
    → ((suite : ArchRows) → slice_get suites arch ≡ Some suite → (stands there : List Bool) → IsSuiteOn arch pool stands suite → length there ≡ length pool
    → IsOn arch pool (marked stands) (marked there) → IsFirstLost arch pool there leaving coming name) → name ≡ tells arch
told_at pool stands suites leaving coming tells arch name are told h first =
    let suite = slice_get_some suites arch h in
    let there = stood_on arch pool stands in
    let long = length-stood arch pool stands in
    let on : IsOn arch pool (marked stands) (marked there) = record { on = λ k r at. stood_at arch pool stands k r at } in
    told.each arch there long on name (first suite.0 suite.1 stands there (are.each arch suite.0 suite.1) long on)

-- Flags of which none is set.

pub none_of : (flags : List Bool) (places : List ℕ) → list_any (marked flags) places ≡ false → (k : ℕ) → has places k ≡ true → marked flags k ≡ false
none_of flags places none k h = elim (cases_Bool (marked flags k)) [
  | inl up ↦ absurd (false≢true (sym none ∙ any_of (marked flags) places k (from_has places k h) up))
  | inr down ↦ down
]

in_range : (n k : ℕ) → has (range_with_len 0 n) k ≡ nat_lt k n
in_range n k =
    same_bit (has (range_with_len 0 n) k) (nat_lt k n) (
    λ h.
    let c = from_has (range_with_len 0 n) k h in
    let below : c.0 < n = omega (arith, c.1, length-range_with_len 0 n) in
    lt_to k n (omega (arith, below, get_or-range_with_len 0 n c.0 k below, c.2))
    ) (
    λ h.
    let below = lt_from k n h in
    to_has (range_with_len 0 n) k (k, omega (arith, below, length-range_with_len 0 n), omega (arith, get_or-range_with_len 0 n k k below))
    )
  where
    lt_to : (a b : ℕ) → a < b → nat_lt a b ≡ true
    lt_to a b h = grind (arith, nat_tests)

    lt_from : (a b : ℕ) → nat_lt a b ≡ true → a < b
    lt_from a b h = grind (arith, nat_tests)

-- where the first rows come and none stood before, these stand
pub firsts_stand : (n total k : ℕ) → k < total → marked (after_change [] (range_with_len 0 n) (replicate total false)) k ≡ nat_lt k n
firsts_stand n total k h =
    flags_after [] (range_with_len 0 n) (replicate total false) k (omega (arith, h, length-copies total false))
    ∙ ap (λ b. has (range_with_len 0 n) k || (b && true)) (no_flag total k) ∙ or-false (has (range_with_len 0 n) k) ∙ in_range n k
  where
    or-false : (b : Bool) → (b || false) ≡ b
    or-false true = refl
    or-false false = refl

-- the first places are a pool's where it has as many rows
pub firsts_within : (pool : List RowIn) (n : ℕ) (leaving coming : List ℕ) → n ≤ length pool → leaving ≡ [] → coming ≡ range_with_len 0 n → IsWithin pool leaving coming
firsts_within pool n leaving coming h none firsts = record {
  leaving_within = subst (λ ks. All (λ k. k < length pool) ks) (sym none) (bounded_members (length pool) [] (λ k c. none_among k c));
  coming_within = subst (λ ks. All (λ k. k < length pool) ks) (sym firsts) (bounded_members (length pool) (range_with_len 0 n) (λ k c.
      let below : c.0 < n = omega (arith, c.1, length-range_with_len 0 n) in
      omega (arith, h, below, get_or-range_with_len 0 n c.0 k below, c.2)));
}

-- What leaves by a removal.

pub removal_within : (pool : List RowIn) (stands : List Bool) (name : Text) (places : List ℕ) → All (λ k. k < length pool) places → IsWithin pool (filter (stands_of pool stands name) places) []
removal_within pool stands name places all = record {
  leaving_within = bounded_filter (length pool) (stands_of pool stands name) places all;
  coming_within = bounded_members (length pool) [] (λ k c. none_among k c);
}

pub removal_of : (pool : List RowIn) (stands : List Bool) (name : Text) (places : List ℕ)
    → ((k : ℕ) (r : RowIn) → slice_get pool k ≡ Some r → r.binary.source ≡ name → Contains places k) → IsRemovalOf pool stands name (filter (stands_of pool stands name) places)
removal_of pool stands name places all = record {
  exact = λ k r at up.
      let test = stands_of pool stands name in
      let is_test : test k ≡ bytes_eq r.binary.source name =
      ap₂ (λ b o. b && option_map_or (λ (q : RowIn). bytes_eq q.binary.source name) o false) up at in
      same_bit (has (filter test places) k) (bytes_eq r.binary.source name)
      (λ h. sym is_test ∙ (from_filter test places k (from_has (filter test places) k h)).1)
      (λ h. to_has (filter test places) k (to_filter test places k (all k r at ((bytes_eq-Decides r.binary.source name).0 h)) (is_test ∙ h)));
  stood = λ k h.
      let test = stands_of pool stands name in
      first_of_both (marked stands k) _ (from_filter test places k (from_has (filter test places) k h)).1;
}
  where
    first_of_both : (a b : Bool) → (a && b) ≡ true → a ≡ true
    first_of_both true b h = refl
    first_of_both false b h = absurd (false≢true h)

-- What a move touches has places.
pub move_within : (pool : List RowIn) (stands : List Bool) (first : ℕ) (sources : List UploadIn) (group : List Text) (leaving coming : List ℕ)
    → IsMoveOf pool stands first sources group leaving coming → IsWithin pool leaving coming
move_within pool stands first sources group leaving coming m = record {
  leaving_within = bounded_members (length pool) leaving (λ k c. elim (m.only k c) [
    | inl own ↦ let w = row_that_stands pool stands own.0 k own.2 in slice_get_within pool k w.0 w.1
    | inr key ↦ given_way k key.0 key.2
  ]);
  coming_within = coming_within pool first (group_sources sources group) coming m.arriving;
}
  where
    given_way : (k j : ℕ) → gives_way_to pool stands j k ≡ true → k < length pool
    given_way k j h =
        let q = at_some_of (λ (x : RowIn). stands_for pool stands x k) (slice_get pool j) h in
        let w = row_that_gives_way pool stands q.0 k q.2 in
        slice_get_within pool k w.0 w.1

-- flags that are taken away and then set are those after the change
pub flags_are : (old between new : List Bool) (leaving coming gone came : List ℕ) → gone ≡ leaving → came ≡ coming
    → between ≡ with_all false gone old → new ≡ with_all true came between → new ≡ after_change leaving coming old
flags_are old between new leaving coming gone came g c b n =
    n ∙ ap (λ ks. with_all true ks between) c ∙ ap (λ fs. with_all true coming fs) (b ∙ ap (λ ks. with_all false ks old) g)
