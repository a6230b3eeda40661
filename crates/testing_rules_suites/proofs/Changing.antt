-- Places that are collected in turn for each of some elements.
use Rattle.std.specs.Prelude.{ℕ, ◌<◌, Bool, true, false, ◌&&◌, nat_le, List, [], ◌∷◌, ◌++◌, Contains, Option, Some, None, filter, length, get_or}
use Rattle.std.specs.List.{All, slice_get}
use Rattle.std.proofs.lemmas.List.{get_or_default}
use Rattle.std.proofs.lemmas.Option.{slice_get_within}
use Rattle.std.specs.Option.{option_map_or}
use Rattle.std.specs.Str.{bytes_eq}
use Rattle.std.proofs.Common.{◌≡◌, refl, sym, ap, ◌∙◌, inl, inr}
use Rattle.std.proofs.lemmas.Bool.{false≢true}
use Rattle.std.proofs.lemmas.List.Elements.{Contains-append_left, Contains-append_right, Contains-append_cases, Contains-push, Contains-push_cases}
use Rattle.std.proofs.lemmas.Slice.Eq.{bytes_eq-Decides}
use Rattle.testing_rules_model.specs.declared.facts.UploadIn.{UploadIn}
use Rattle.testing_rules_model.specs.declared.suite.RowIn.{RowIn}
use Rattle.testing_rules_suites.specs.steps.Changes.{comes_at, stands_of, stands_for, gives_way_to, AreThose, IsMoveOf}
use Rattle.testing_rules_model.specs.Moves.{is_same_key, group_sources}
use Rattle.testing_rules_model.specs.Unstable.{is_current, is_of_source}
use Rattle.testing_rules_items.specs.Words.{Text}
use Rattle.testing_rules_model.proofs.Least.{from_filter, to_filter}
use Rattle.testing_rules_items.proofs.Members.{none_among}

second_of_both : (a b : Bool) → (a && b) ≡ true → b ≡ true
second_of_both true b h = h
second_of_both false b h = absurd (false≢true h)

first_of_both : (a b : Bool) → (a && b) ≡ true → a ≡ true
first_of_both true b h = refl
first_of_both false b h = absurd (false≢true h)

module _ {A : Type 0} (test : A → ℕ → Bool) where
  pub those_none : AreThose test [] []
  those_none = record { sound = λ k c. none_among k c; complete = λ x k c h. none_among x c }

  -- with the places for one element more, which are among some places
  pub those_more : (xs : List A) (ks : List ℕ) (x : A) (places : List ℕ) → AreThose test xs ks → ((k : ℕ) → test x k ≡ true → Contains places k)
      → AreThose test (xs ++ x ∷ []) (ks ++ filter (test x) places)
  those_more xs ks x places those all = record {
    sound = λ k c. elim (Contains-append_cases ks (filter (test x) places) k c) [
      | inl before ↦ let w = those.sound k before in (w.0, Contains-append_left xs (x ∷ []) w.0 w.1, w.2)
      | inr now ↦ (x, Contains-push xs x, (from_filter (test x) places k now).1)
    ];
    complete = λ y k c h. elim (Contains-push_cases xs x y c) [
      | inl before ↦ Contains-append_left ks (filter (test x) places) k (those.complete y k before h)
      | inr own ↦ Contains-append_right ks (filter (test x) places) k (
          let passes : test x k ≡ true = ap (λ z. test z k) own ∙ h in
          to_filter (test x) places k (all k passes) passes)
    ];
  }

at_some_of : (test : RowIn → Bool) (m : Option RowIn) → option_map_or test m false ≡ true → (r : RowIn) × (m ≡ Some r) × (test r ≡ true)
at_some_of test None h = absurd (false≢true h)
at_some_of test (Some r) h = (r, refl, h)

-- what passes a test has a row
pub row_that_comes : (pool : List RowIn) (first : ℕ) (u : UploadIn) (k : ℕ) → comes_at pool first u k ≡ true → (r : RowIn) × (slice_get pool k ≡ Some r) × (is_current u r ≡ true)
row_that_comes pool first u k h = at_some_of (is_current u) (slice_get pool k) (second_of_both (nat_le first k) _ h)

pub row_that_stands : (pool : List RowIn) (stands : List Bool) (name : Text) (k : ℕ) → stands_of pool stands name k ≡ true → (r : RowIn) × (slice_get pool k ≡ Some r) × (bytes_eq r.binary.source name ≡ true)
row_that_stands pool stands name k h = at_some_of (λ r. bytes_eq r.binary.source name) (slice_get pool k) (second_of_both _ _ h)

pub row_that_gives_way : (pool : List RowIn) (stands : List Bool) (other : RowIn) (k : ℕ) → stands_for pool stands other k ≡ true → (r : RowIn) × (slice_get pool k ≡ Some r) × (is_same_key other r ≡ true)
row_that_gives_way pool stands other k h = at_some_of (is_same_key other) (slice_get pool k) (second_of_both _ _ h)

module _ (pool : List RowIn) (name : Text) (places : List ℕ) where
  -- the places of a source's rows have those that come
  pub coming_among : ((k : ℕ) (r : RowIn) → slice_get pool k ≡ Some r → r.binary.source ≡ name → Contains places k)
      → (first : ℕ) (u : UploadIn) → u.source ≡ name → (k : ℕ) → comes_at pool first u k ≡ true → Contains places k
  coming_among all first u e k h =
      let w = row_that_comes pool first u k h in
      all k w.0 w.1 ((bytes_eq-Decides w.0.binary.source u.source).0 (first_of_both (is_of_source u w.0) _ w.2) ∙ e)

  -- and those that stand
  pub standing_among : ((k : ℕ) (r : RowIn) → slice_get pool k ≡ Some r → r.binary.source ≡ name → Contains places k)
      → (stands : List Bool) (k : ℕ) → stands_of pool stands name k ≡ true → Contains places k
  standing_among all stands k h =
      let w = row_that_stands pool stands name k h in
      all k w.0 w.1 ((bytes_eq-Decides w.0.binary.source name).0 w.2)

-- the places of a name's rows have those of the key
pub giving_way_among : (pool : List RowIn) (other : RowIn) (places : List ℕ) → ((k : ℕ) (r : RowIn) → slice_get pool k ≡ Some r → r.binary.name ≡ other.binary.name → Contains places k)
    → (stands : List Bool) (k : ℕ) → stands_for pool stands other k ≡ true → Contains places k
giving_way_among pool other places all stands k h =
    let w = row_that_gives_way pool stands other k h in
    all k w.0 w.1 (sym ((bytes_eq-Decides other.binary.name w.0.binary.name).0 (second_of_both _ _ w.2)))

-- places that come for an upload are places of rows
pub coming_within : (pool : List RowIn) (first : ℕ) (us : List UploadIn) (ks : List ℕ) → AreThose (comes_at pool first) us ks → All (λ k. k < length pool) ks
coming_within pool first us ks those i d l =
    let k = get_or ks i d in
    let s = those.sound k (i, l, get_or_default ks i k d l) in
    let w = row_that_comes pool first s.0 k s.2 in
    slice_get_within pool k w.0 w.1

-- the places of both lists are those that leave
pub all_that_leave : (pool : List RowIn) (stands : List Bool) (first : ℕ) (sources : List UploadIn) (group : List Text) (own giving_way coming : List ℕ)
    → AreThose (comes_at pool first) (group_sources sources group) coming → AreThose (stands_of pool stands) group own → AreThose (gives_way_to pool stands) coming giving_way
    → IsMoveOf pool stands first sources group (own ++ giving_way) coming
all_that_leave pool stands first sources group own giving_way coming c o g = record {
  arriving = c;
  own = λ name k n h. Contains-append_left own giving_way k (o.complete name k n h);
  giving_way = λ j k n h. Contains-append_right own giving_way k (g.complete j k n h);
  only = λ k d. elim (Contains-append_cases own giving_way k d) [
    | inl before ↦ let w = o.sound k before in inl (w.0, w.1, w.2)
    | inr behind ↦ let w = g.sound k behind in inr (w.0, w.1, w.2)
  ];
}
