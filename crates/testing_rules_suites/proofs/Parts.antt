-- The pool's rows that are on one architecture, by their numbers and by their places.
use Rattle.std.specs.Prelude.{ℕ, zero, suc, ◌+◌, ◌-◌, ◌<◌, ◌≤◌, Bool, true, false, List, [], ◌∷◌, ◌++◌, length, Contains, Option, Some, map, filter, option_map}
use Rattle.std.specs.List.{All, slice_get, range_with_len}
use Rattle.std.specs.Option.{option_map_or}
use Rattle.std.proofs.Common.{◌≡◌, sym, ap, ◌∙◌, subst, arith}
use Rattle.std.proofs.lemmas.List.{length-map}
use Rattle.std.proofs.lemmas.List.FromFn.{length-range_with_len, get_or-range_with_len}
use Rattle.std.proofs.lemmas.List.Kept.{AllPairs-filter}
use Rattle.std.proofs.lemmas.Option.{same_Some, slice_get_within, slice_get-map}
use Rattle.deb_control.specs.declared.binary.Binary.{Binary}
use Rattle.testing_install.proofs.Counting.{slice_get_some}
use Rattle.testing_rules_model.specs.declared.suite.RowIn.{RowIn}
use Rattle.testing_rules_model.specs.steps.Moves.{is_row_on}
use Rattle.testing_rules_suites.specs.steps.ArchRows.{ArchRows, AreAscending, package_at}
use Rattle.testing_rules_suites.specs.steps.PresentSteps.{IsOver}
use Rattle.testing_rules_suites.specs.steps.Trials.{is_place_on}
use Rattle.testing_rules_suites.proofs.Arranging.{at_some_of}
use Rattle.testing_rules_suites.proofs.Flags.{bounded_members}
use Rattle.testing_rules_model.proofs.Least.{from_filter, to_filter}
use Rattle.testing_rules_suites.proofs.Lost.{contains_at, at_place}

-- the first places, one more
range_next : (a n : ℕ) → range_with_len a n ++ (a + n) ∷ [] ≡ range_with_len a (suc n)
range_next a zero = ap (λ k. k ∷ []) (let e : a + 0 ≡ a = omega arith in e)
range_next a (suc n) = ap (λ ks. a ∷ ks) (ap (λ k. range_with_len (a + 1) n ++ k ∷ []) (let e : a + suc n ≡ (a + 1) + n = omega arith in e) ∙ range_next (a + 1) n)

pub range_more : (n : ℕ) → range_with_len 0 n ++ n ∷ [] ≡ range_with_len 0 (n + 1)
range_more n =
    ap (λ k. range_with_len 0 n ++ k ∷ []) (let e : n ≡ 0 + n = omega arith in e) ∙ range_next 0 n
    ∙ ap (range_with_len 0) (let e : suc n ≡ n + 1 = omega arith in e)

-- the places from one on, one more
pub range_behind : (from k : ℕ) → from ≤ k → range_with_len from (k - from) ++ k ∷ [] ≡ range_with_len from ((k + 1) - from)
range_behind from k h =
    ap (λ j. range_with_len from (k - from) ++ j ∷ []) (let e : k ≡ from + (k - from) = omega (arith, h) in e) ∙ range_next from (k - from)
    ∙ ap (range_with_len from) (let e : suc (k - from) ≡ (k + 1) - from = omega (arith, h) in e)

-- those of the first places that pass a test ascend
pub ascending_filter : (test : ℕ → Bool) (n : ℕ) → AreAscending (filter test (range_with_len 0 n))
ascending_filter test n =
    AllPairs-filter (λ j k. j < k) test (range_with_len 0 n) (λ i j d h below.
    let long : j < n = omega (arith, below, length-range_with_len 0 n) in
    omega (arith, h, get_or-range_with_len 0 n i d (omega (arith, h, long)), get_or-range_with_len 0 n j d long))

in_range : (n k : ℕ) → k < n → Contains (range_with_len 0 n) k
in_range n k h = (k, omega (arith, h, length-range_with_len 0 n), omega (arith, get_or-range_with_len 0 n k k h))

-- the places of the rows on an architecture
module _ (arch : ℕ) (pool : List RowIn) where
  abbrev places : List ℕ
  places = filter (is_place_on arch pool) (range_with_len 0 (length pool))

  pub row_at_place : (k : ℕ) → Contains places k → (r : RowIn) × (slice_get pool k ≡ Some r) × (is_row_on arch r ≡ true)
  row_at_place k c = at_some_of (is_row_on arch) (slice_get pool k) (from_filter (is_place_on arch pool) (range_with_len 0 (length pool)) k c).1

  pub place_of_row : (k : ℕ) (r : RowIn) → slice_get pool k ≡ Some r → is_row_on arch r ≡ true → Contains places k
  place_of_row k r at on =
      to_filter (is_place_on arch pool) (range_with_len 0 (length pool)) k (in_range (length pool) k (slice_get_within pool k r at)) (ap (λ o. option_map_or (is_row_on arch) o false) at ∙ on)

  pub places_within : All (λ k. k < length pool) places
  places_within = bounded_members (length pool) places (λ k c. let r = row_at_place k c in slice_get_within pool k r.0 r.1)

-- a suite of the rows on an architecture
module _ (arch : ℕ) (pool : List RowIn) (suite : ArchRows) (over : IsOver arch pool suite) where
  pub count_over : length suite.suite.rows ≡ length suite.places
  count_over = sym (length-map suite.suite.rows (λ (b : Binary). Some b)) ∙ ap length over.rows ∙ length-map suite.places (package_at pool)

  pub ascending_over : AreAscending suite.places
  ascending_over = subst AreAscending (sym over.places) (ascending_filter (is_place_on arch pool) (length pool))

  -- the row at the place of a number
  pub row_of_number : (i k : ℕ) → slice_get suite.places i ≡ Some k
      → (r : RowIn) × (slice_get pool k ≡ Some r) × (is_row_on arch r ≡ true) × (slice_get suite.suite.rows i ≡ Some r.binary)
  row_of_number i k at =
      let w = row_at_place arch pool k (subst (λ ks. Contains ks k) over.places (contains_at suite.places i k at)) in
      let row = slice_get_some suite.suite.rows i (omega (arith, count_over, slice_get_within suite.places i k at)) in
      let left : slice_get (map (λ b. Some b) suite.suite.rows) i ≡ Some (Some row.0) =
      slice_get-map (λ (b : Binary). Some b) suite.suite.rows i ∙ ap (option_map (λ (b : Binary). Some b)) row.1 in
      let right : slice_get (map (package_at pool) suite.places) i ≡ Some (Some w.0.binary) =
      slice_get-map (package_at pool) suite.places i ∙ ap (option_map (package_at pool)) at ∙ ap (λ (o : Option RowIn). Some (option_map (λ r. r.binary) o)) w.1 in
      let same : Some row.0 ≡ Some w.0.binary = same_Some (Some row.0) (Some w.0.binary) (sym left ∙ ap (λ bs. slice_get bs i) over.rows ∙ right) in
      (w.0, w.1, w.2, row.1 ∙ same)

  -- the number of the place of a row
  pub number_of_row : (k : ℕ) (r : RowIn) → slice_get pool k ≡ Some r → is_row_on arch r ≡ true → (i : ℕ) × (slice_get suite.places i ≡ Some k)
  number_of_row k r at on =
      let c = subst (λ ks. Contains ks k) (sym over.places) (place_of_row arch pool k r at on) in
      (c.0, at_place suite.places k c)
