-- The suite of an architecture with more of the pool's rows behind its own.
use Rattle.std.specs.Prelude.{ℕ, zero, suc, ◌+◌, ◌-◌, ◌<◌, ◌≤◌, Bool, false, cond, List, [], ◌∷◌, ◌++◌, length, take, Contains, Some, map, filter, replicate, option_map}
use Rattle.std.specs.List.{All, slice_get, range_with_len}
use Rattle.std.specs.Option.{option_map_or}
use Rattle.std.proofs.Common.{◌≡◌, refl, sym, ap, ◌∙◌, subst, inl, inr, arith}
use Rattle.std.proofs.lemmas.Bool.{cases_Bool, cases_lt}
use Rattle.std.proofs.lemmas.List.{length-append, length-map, length-replicate, length-take-le, map-append}
use Rattle.std.proofs.lemmas.List.Elements.{filter-append}
use Rattle.std.proofs.lemmas.List.FromFn.{length-range_with_len, get_or-range_with_len}
use Rattle.deb_control.specs.declared.binary.Binary.{Binary}
use Rattle.testing_install.specs.Closed.{marked}
use Rattle.testing_install.proofs.Marking.{marked_longer}
use Rattle.testing_install.proofs.Sharing.{slice_get_before}
use Rattle.testing_rules_model.specs.declared.suite.RowIn.{RowIn}
use Rattle.testing_rules_model.specs.steps.Moves.{is_row_on}
use Rattle.testing_rules_suites.specs.steps.ArchRows.{ArchRows, IsArchRows, package_at}
use Rattle.testing_rules_suites.specs.steps.PresentSteps.{IsOver, IsSuiteOn}
use Rattle.testing_rules_suites.specs.steps.Trials.{is_place_on}
use Rattle.testing_rules_suites.proofs.Flags.{bounded_members, marked_within}
use Rattle.testing_rules_model.proofs.Least.{from_filter}
use Rattle.testing_rules_suites.proofs.Lost.{contains_at}
use Rattle.testing_rules_suites.proofs.Parts.{places_within, ascending_over, count_over}

-- Places, and those behind them.

range_joined : (a m n : ℕ) → range_with_len a m ++ range_with_len (a + m) n ≡ range_with_len a (m + n)
range_joined a zero n = ap (λ k. range_with_len k n) (let e : a + 0 ≡ a = omega arith in e) ∙ ap (range_with_len a) (let e : n ≡ 0 + n = omega arith in e)
range_joined a (suc m) n =
    ap (λ ks. a ∷ ks) (ap (λ k. range_with_len (a + 1) m ++ range_with_len k n) (let e : a + suc m ≡ (a + 1) + m = omega arith in e) ∙ range_joined (a + 1) m n)
    ∙ ap (range_with_len a) (let e : suc (m + n) ≡ suc m + n = omega arith in e)

range_split : (from n : ℕ) → from ≤ n → range_with_len 0 from ++ range_with_len from (n - from) ≡ range_with_len 0 n
range_split from n h =
    ap (λ k. range_with_len 0 from ++ range_with_len k (n - from)) (let e : from ≡ 0 + from = omega arith in e) ∙ range_joined 0 from (n - from)
    ∙ ap (range_with_len 0) (let e : from + (n - from) ≡ n = omega (arith, h) in e)

filter_alike : (p q : ℕ → Bool) (a m n : ℕ) → a + m ≤ n → ((k : ℕ) → k < n → p k ≡ q k) → filter p (range_with_len a m) ≡ filter q (range_with_len a m)
filter_alike p q a zero n h same = refl
filter_alike p q a (suc m) n h same =
    ap (λ b. cond b (a ∷ filter p (range_with_len (a + 1) m)) (filter p (range_with_len (a + 1) m))) (same a (omega (arith, h)))
    ∙ ap (λ ks. cond (q a) (a ∷ ks) ks) (filter_alike p q (a + 1) m n (omega (arith, h)) same)

map_alike : {A : Type 0} (f g : ℕ → A) (xs : List ℕ) (n : ℕ) → All (λ k. k < n) xs → ((k : ℕ) → k < n → f k ≡ g k) → map f xs ≡ map g xs
map_alike f g [] n all same = refl
map_alike f g (x ∷ xs) n all same =
    ap (λ y. y ∷ map f xs) (same x (all 0 x (omega arith))) ∙ ap (λ ys. g x ∷ ys) (map_alike f g xs n (λ i d h. all (suc i) d (omega (arith, h))) same)

get_in_front : {A : Type 0} (n : ℕ) (xs : List A) (k : ℕ) → k < n → slice_get (take n xs) k ≡ slice_get xs k
get_in_front zero xs k h = absurd (omega (arith, h))
get_in_front (suc n) [] k h = refl
get_in_front (suc n) (x ∷ xs) zero h = refl
get_in_front (suc n) (x ∷ xs) (suc k) h = get_in_front n xs k (omega (arith, h))

get_behind : {A : Type 0} (xs ys : List A) (k : ℕ) → length xs ≤ k → slice_get (xs ++ ys) k ≡ slice_get ys (k - length xs)
get_behind [] ys k h = ap (slice_get ys) (let e : k ≡ k - 0 = omega arith in e)
get_behind (x ∷ xs) ys zero h = absurd (omega (arith, h))
get_behind (x ∷ xs) ys (suc k) h = get_behind xs ys k (omega (arith, h)) ∙ ap (slice_get ys) (let e : k - length xs ≡ suc k - length (x ∷ xs) = omega arith in e)

not_marked : (flags : List Bool) (k : ℕ) → length flags ≤ k → marked flags k ≡ false
not_marked flags k h = elim (cases_Bool (marked flags k)) [
  | inl on ↦ absurd (omega (arith, h, marked_within flags k on))
  | inr off ↦ off
]

not_below : (test : ℕ → Bool) (from n k : ℕ) → Contains (filter test (range_with_len from n)) k → from ≤ k
not_below test from n k c =
    let d = (from_filter test (range_with_len from n) k c).0 in
    omega (arith, d.2, get_or-range_with_len from n d.0 k (omega (arith, d.1, length-range_with_len from n)))

-- the places from one on of the rows on an architecture are places of rows
pub places_behind : (arch : ℕ) (pool : List RowIn) (from : ℕ) → from ≤ length pool → All (λ k. k < length pool) (filter (is_place_on arch pool) (range_with_len from (length pool - from)))
places_behind arch pool from h =
    bounded_members (length pool) (filter (is_place_on arch pool) (range_with_len from (length pool - from))) (λ k c.
    let d = (from_filter (is_place_on arch pool) (range_with_len from (length pool - from)) k c).0 in
    let l : d.0 < length pool - from = omega (arith, d.1, length-range_with_len from (length pool - from)) in
    omega (arith, h, l, d.2, get_or-range_with_len from (length pool - from) d.0 k l))

-- a suite of the rows before a place, and the rows on its architecture from that place on
module _ (arch : ℕ) (pool : List RowIn) (from : ℕ) (h : from ≤ length pool) (old : ArchRows) (over : IsOver arch (take from pool) old) (more : List ℕ) (packages : List Binary) (m : ℕ)
    (are : more ≡ filter (is_place_on arch pool) (range_with_len from (length pool - from))) (read : map (λ b. Some b) packages ≡ map (package_at pool) more) (count : m ≡ length packages)
    (new : ArchRows) (places : new.places ≡ old.places ++ more) (rows : new.suite.rows ≡ old.suite.rows ++ packages) (there : new.suite.there ≡ old.suite.there ++ replicate m false) where
  front : length (take from pool) ≡ from
  front = length-take-le from pool h

  same_row : (k : ℕ) → k < from → slice_get (take from pool) k ≡ slice_get pool k
  same_row k l = get_in_front from pool k l

  -- its places are those before the place
  own_places : old.places ≡ filter (is_place_on arch pool) (range_with_len 0 from)
  own_places =
      over.places ∙ ap (λ n. filter (is_place_on arch (take from pool)) (range_with_len 0 n)) front
      ∙ filter_alike (is_place_on arch (take from pool)) (is_place_on arch pool) 0 from from (omega arith) (λ k l. ap (λ o. option_map_or (is_row_on arch) o false) (same_row k l))

  own_within : All (λ k. k < from) old.places
  own_within = subst (λ n. All (λ k. k < n) old.places) front (subst (All (λ k. k < length (take from pool))) (sym over.places) (places_within arch (take from pool)))

  own_packages : map (λ b. Some b) old.suite.rows ≡ map (package_at pool) old.places
  own_packages = over.rows ∙ map_alike (package_at (take from pool)) (package_at pool) old.places from own_within (λ k l. ap (option_map (λ r. r.binary)) (same_row k l))

  as_many : length more ≡ m
  as_many = omega (arith, count, length-map packages (λ (b : Binary). Some b), ap length read, length-map more (package_at pool))

  pub over_longer : IsOver arch pool new
  over_longer = record {
    places = places ∙ ap (λ ks. ks ++ more) own_places ∙ ap (λ ks. filter (is_place_on arch pool) (range_with_len 0 from) ++ ks) are
        ∙ sym (filter-append (is_place_on arch pool) (range_with_len 0 from) (range_with_len from (length pool - from))) ∙ ap (filter (is_place_on arch pool)) (range_split from (length pool) h);
    rows = ap (map (λ b. Some b)) rows ∙ map-append (λ (b : Binary). Some b) old.suite.rows packages ∙ ap (λ bs. bs ++ map (λ b. Some b) packages) own_packages
        ∙ ap (λ bs. map (package_at pool) old.places ++ bs) read ∙ sym (map-append (package_at pool) old.places more) ∙ ap (map (package_at pool)) (sym places);
    long = omega (arith, ap length there, ap length places, length-append old.suite.there (replicate m false), length-append old.places more, length-replicate m false, over.long, as_many);
  }

  pub part_longer : IsArchRows new.places new.suite
  part_longer = record { ascending = ascending_over arch pool new over_longer; count = count_over arch pool new over_longer; long = over_longer.long }

  -- none of the new rows is there, and none of them stands
  pub suite_longer : (stands : List Bool) → length stands ≡ from → IsSuiteOn arch (take from pool) stands old → IsSuiteOn arch pool (stands ++ replicate (length pool - from) false) new
  suite_longer stands long own = record {
    over = over_longer;
    stand = λ i k at.
        let there_is : marked new.suite.there i ≡ marked old.suite.there i = ap (λ fs. marked fs i) there ∙ marked_longer old.suite.there m i in
        let stands_is : marked (stands ++ replicate (length pool - from) false) k ≡ marked stands k = marked_longer stands (length pool - from) k in
        let now : slice_get (old.places ++ more) i ≡ Some k = sym (ap (λ ks. slice_get ks i) places) ∙ at in
        let alike : marked old.suite.there i ≡ marked stands k = elim (cases_lt i (length old.places)) [
          | inl l ↦ own.stand i k (sym (slice_get_before old.places more i l) ∙ now)
          | inr g ↦ (
              let behind : slice_get more (i - length old.places) ≡ Some k = sym (get_behind old.places more i g) ∙ now in
              let among : Contains (filter (is_place_on arch pool) (range_with_len from (length pool - from))) k = subst (λ ks. Contains ks k) are (contains_at more (i - length old.places) k behind) in
              not_marked old.suite.there i (omega (arith, g, over.long)) ∙ sym (not_marked stands k (omega (arith, long, not_below (is_place_on arch pool) from (length pool - from) k among))))
        ] in
        there_is ∙ alike ∙ sym stands_is;
  }
