-- The numbers of places among some that ascend.
use Rattle.std.specs.Prelude.{ℕ, ◌<◌, ◌≤◌, ◌↔◌, Bool, true, false, List, [], ◌∷◌, ◌++◌, length, map, get_or, slice_index, Contains, Some, Result, OnOk, OnErr}
use Rattle.std.specs.Prelude.{Ok, Err}
use Rattle.std.specs.List.{All, slice_get}
use Rattle.std.specs.List.Sorted.{IsBinarySearchResult}
use Rattle.std.specs.Ordering.{nat_cmp}
use Rattle.std.proofs.Common.{◌≡◌, refl, sym, ap, ◌∙◌, subst, arith, inl, inr}
use Rattle.std.proofs.lemmas.Bool.{cases_lt}
use Rattle.std.proofs.lemmas.List.Elements.{Contains-append_left, Contains-push, Contains-push_cases}
use Rattle.std.proofs.lemmas.List.Sorted.{searched}
use Rattle.std.proofs.lemmas.Option.{slice_get_within, slice_get-get_or, get_or_from_slice_get}
use Rattle.std.specs.Result.{result_ok}
use Rattle.testing_install.specs.Among.{IsLost, after_change, with_all}
use Rattle.testing_install.specs.Closed.{marked}
use Rattle.testing_install.specs.Suite.{SuiteState}
use Rattle.testing_install.proofs.Marking.{length-with_all}
use Rattle.testing_rules_suites.specs.steps.ArchRows.{AreAscending, IsArchRows, IsNumberOf, AreNumbers, IsAfter, AreLostFrom}
use Rattle.testing_rules_suites.proofs.Flags.{flag_within, bounded_members}
use Rattle.testing_rules_items.proofs.Members.{none_among}
use Rattle.testing_rules_model.proofs.Sets.{mapped_from, maps}

never_below : (places : List ℕ) (i j k : ℕ) → AreAscending places → slice_get places i ≡ Some k → slice_get places j ≡ Some k → i < j → ⊥
never_below places i j k up here there h =
    omega (arith, up i j 0 h (slice_get_within places j k there), get_or_from_slice_get places i k 0 here, get_or_from_slice_get places j k 0 there)

-- places that ascend have one number each
pub one_number : (places : List ℕ) (i j k : ℕ) → AreAscending places → slice_get places i ≡ Some k → slice_get places j ≡ Some k → i ≡ j
one_number places i j k up here there = elim (cases_lt i j) [
  | inl below ↦ absurd (never_below places i j k up here there below)
  | inr above ↦ elim (cases_lt j i) [
    | inl below ↦ absurd (never_below places j i k up there here below)
    | inr also ↦ omega (arith, above, also)
  ]
]

rising : (places : List ℕ) → AreAscending places → (i j : ℕ) → i ≤ j → j < length places → get_or places i 0 ≤ get_or places j 0
rising places up i j h below = elim (cases_lt i j) [
  | inl apart ↦ omega (arith, up i j 0 apart below)
  | inr same ↦ (let e : i ≡ j = omega (arith, h, same) in omega (arith, ap (λ n. get_or places n 0) e))
]

-- what a search by halves finds
pub number_is : (places : List ℕ) (place : ℕ) (r : Result ℕ ℕ) → AreAscending places → IsBinarySearchResult (λ y. nat_cmp y place) places r → IsNumberOf places place (result_ok r)
number_is places place (Ok i) up found =
    let s = searched places place (Ok i) found (rising places up) in
    slice_get-get_or places i 0 s.0 ∙ ap (λ (n : ℕ). Some n) s.1
number_is places place (Err i) up found = λ j at.
    let s = searched places place (Err i) found (rising places up) in
    let is = get_or_from_slice_get places j place 0 at in
    elim (cases_lt j i) [
      | inl below ↦ omega (arith, s.1 j below, is)
      | inr above ↦ omega (arith, s.2 j above (slice_get_within places j place at), is)
    ]

pub numbers_none : (own : List ℕ) → AreNumbers own [] []
numbers_none own = record {
  sound = λ i c. none_among i c;
  complete = λ i k at c. none_among k c;
}

module _ (own done numbers : List ℕ) (are : AreNumbers own done numbers) (k : ℕ) where
  -- a place more that is one of them
  pub numbers_more : (i : ℕ) → AreAscending own → slice_get own i ≡ Some k → AreNumbers own (done ++ k ∷ []) (numbers ++ i ∷ [])
  numbers_more i up here = record {
    sound = λ j c. elim (Contains-push_cases numbers i j c) [
      | inl before ↦ let s = are.sound j before in (s.0, s.1, Contains-append_left done (k ∷ []) s.0 s.2)
      | inr now ↦ (k, ap (slice_get own) (sym now) ∙ here, Contains-push done k)
    ];
    complete = λ j m at c. elim (Contains-push_cases done k m c) [
      | inl before ↦ Contains-append_left numbers (i ∷ []) j (are.complete j m at before)
      | inr now ↦ subst (Contains (numbers ++ i ∷ [])) (one_number own i j m up (here ∙ ap (λ (n : ℕ). Some n) now) at) (Contains-push numbers i)
    ];
  }

  -- and one that isn't
  pub numbers_same : ((i : ℕ) → slice_get own i ≡ Some k → ⊥) → AreNumbers own (done ++ k ∷ []) numbers
  numbers_same apart = record {
    sound = λ j c. let s = are.sound j c in (s.0, s.1, Contains-append_left done (k ∷ []) s.0 s.2);
    complete = λ j m at c. elim (Contains-push_cases done k m c) [
      | inl before ↦ are.complete j m at before
      | inr now ↦ absurd (apart j (at ∙ ap (λ (n : ℕ). Some n) (sym now)))
    ];
  }

-- each number is one of a place
pub numbers_within : (own places numbers given : List ℕ) (n : ℕ) → AreNumbers own places numbers → length own ≡ n → given ≡ numbers → All (λ i. i < n) given
numbers_within own places numbers given n are e same =
    subst (All (λ i. i < n)) (sym same) (bounded_members n numbers (λ i c. let s = are.sound i c in omega (arith, slice_get_within own i s.0 s.1, e)))

-- What a change of a part leaves and loses.

pub on_ok_weaker : {A E : Type 0} {P Q : Type 0} (r : Result A E) → (P → Q) → OnOk r P → OnOk r Q
on_ok_weaker (Ok x) f h = f h
on_ok_weaker (Err e) f h = h

pub part_after : {A E : Type 0} (places left came : List ℕ) (old new : SuiteState) (r : Result A E) → IsArchRows places old → new.rows ≡ old.rows
    → OnOk r (new.there ≡ after_change left came old.there) → OnErr r (new ≡ old) → IsArchRows places new
part_after places left came old new (Ok x) part rows there err = record {
  ascending = part.ascending;
  count = ap length rows ∙ part.count;
  long = ap length there ∙ length-with_all true came (with_all false left old.there) ∙ length-with_all false left old.there ∙ part.long;
}
part_after places left came old new (Err e) part rows there err = subst (IsArchRows places) (sym err) part

module _ (own : List ℕ) (suite : SuiteState) (leaving coming left came : List ℕ) (left_are : AreNumbers own leaving left) (came_are : AreNumbers own coming came) where
  pub after_numbers : (there : List Bool) → there ≡ after_change left came suite.there → IsAfter (record { places = own; suite = suite }) leaving coming there
  after_numbers there is = record { left = left; came = came; left_are = left_are; came_are = came_are; exact = is }

  module _ (part : IsArchRows own suite) (lost : List ℕ)
      (exact : (i : ℕ) → Contains lost i ↔ IsLost suite.rows (marked suite.there) (marked (after_change left came suite.there)) i) where
    pub lost_within : (given : List ℕ) → given ≡ lost → All (λ i. i < length own) given
    lost_within given same =
        subst (All (λ i. i < length own)) (sym same)
        (bounded_members (length own) lost (λ i c. omega (arith, flag_within left came suite.there i ((exact i).0 c).0, part.long)))

    below : (i : ℕ) → Contains lost i → i < length own
    below i c = omega (arith, lost_within lost refl c.0 i c.1, c.2)

    pub lost_numbers : (places : List ℕ) → places ≡ map (slice_index own) lost → AreLostFrom (record { places = own; suite = suite }) leaving coming places
    lost_numbers places is = record {
      there = after_change left came suite.there;
      after = after_numbers (after_change left came suite.there) refl;
      exact = λ k. (
        λ c.
            let m = mapped_from (slice_index own) lost k (subst (λ ks. Contains ks k) is c) in
            (m.0, slice_get-get_or own m.0 0 (below m.0 m.1) ∙ ap (λ (n : ℕ). Some n) m.2, (exact m.0).0 m.1),
        λ l.
            let number = (exact l.0).1 l.2 in
            subst (λ ks. Contains ks k) (sym is) (subst (Contains (map (slice_index own) lost)) (get_or_from_slice_get own l.0 k 0 l.1) (maps (slice_index own) lost l.0 number)),
      );
    }
