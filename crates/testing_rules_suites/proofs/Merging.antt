-- Places into which those of further rows are merged.
use Rattle.std.specs.Prelude.{ℕ, ◌<◌, ◌≤◌, ◌+◌, List, [], ◌∷◌, ◌++◌, Bool, Contains, length, filter}
use Rattle.std.specs.List.{range_with_len}
use Rattle.std.proofs.Common.{◌≡◌, sym, subst, arith, inl, inr}
use Rattle.std.proofs.lemmas.Bool.{cases_lt}
use Rattle.std.proofs.lemmas.List.Elements.{All-contains, Contains-append_left, Contains-append_right, Contains-append_cases, Contains-push, Contains-push_cases}
use Rattle.testing_install.specs.Closed.{marked}
use Rattle.testing_rules_suites.specs.steps.Pools.{HasPlaces}
use Rattle.testing_rules_model.specs.SameMessages.{SameElements}
use Rattle.testing_rules_suites.specs.steps.PresentSteps.{set_places}
use Rattle.testing_rules_suites.proofs.Flags.{bounded_members, marked_within}
use Rattle.testing_rules_model.proofs.Least.{from_filter, to_filter}
use Rattle.testing_rules_suites.proofs.Showing.{range_has}

-- the places before those of the further rows, and these up to one place, are merged or in the rest
pub record IsMerged (count from place : ℕ) (merged rest : List ℕ) : Type 0 where
  pub within : (k : ℕ) → Contains (merged ++ rest) k → k < count
  pub old : (k : ℕ) → k < from → Contains (merged ++ rest) k
  pub new : (k : ℕ) → from ≤ k → k < place → Contains merged k

pub merged_none : (count from : ℕ) (places : List ℕ) → from ≤ count → HasPlaces from places → IsMerged count from from [] places
merged_none count from places low has = record {
  within = λ k c. let below : k < from = All-contains (λ j. j < from) places k has.within c in omega (arith, below, low);
  old = has.each;
  new = λ k l h. absurd (omega (arith, l, h));
}

module _ (count from place : ℕ) (merged rest before behind : List ℕ) (halves : rest ≡ before ++ behind) (below : place < count) (is : IsMerged count from place merged rest) where
  abbrev longer : List ℕ
  longer = (merged ++ before) ++ place ∷ []

  in_rest : (k : ℕ) → Contains (before ++ behind) k → Contains (merged ++ rest) k
  in_rest k c = Contains-append_right merged rest k (subst (λ ks. Contains ks k) (sym halves) c)

  in_front : (k : ℕ) → Contains (merged ++ before) k → Contains (merged ++ rest) k
  in_front k c = elim (Contains-append_cases merged before k c) [
    | inl m ↦ Contains-append_left merged rest k m
    | inr b ↦ in_rest k (Contains-append_left before behind k b)
  ]

  of_longer : (k : ℕ) → Contains longer k → k < count
  of_longer k c = elim (Contains-push_cases (merged ++ before) place k c) [
    | inl front ↦ is.within k (in_front k front)
    | inr same ↦ subst (λ j. j < count) same below
  ]

  to_longer : (k : ℕ) → Contains (merged ++ before) k → Contains longer k
  to_longer k c = Contains-append_left (merged ++ before) (place ∷ []) k c

  of_old : (k : ℕ) → Contains (merged ++ rest) k → Contains (longer ++ behind) k
  of_old k c = elim (Contains-append_cases merged rest k c) [
    | inl m ↦ Contains-append_left longer behind k (to_longer k (Contains-append_left merged before k m))
    | inr r ↦ elim (Contains-append_cases before behind k (subst (λ ks. Contains ks k) halves r)) [
      | inl b ↦ Contains-append_left longer behind k (to_longer k (Contains-append_right merged before k b))
      | inr t ↦ Contains-append_right longer behind k t
    ]
  ]

  up_to : (k : ℕ) → from ≤ k → k < place + 1 → Contains longer k
  up_to k low high = elim (cases_lt k place) [
    | inl less ↦ to_longer k (Contains-append_left merged before k (is.new k low less))
    | inr most ↦ let same : place ≡ k = omega (arith, most, high) in subst (λ j. Contains longer j) same (Contains-push (merged ++ before) place)
  ]

  pub merged_more : IsMerged count from (place + 1) longer behind
  merged_more = record {
    within = λ k c. elim (Contains-append_cases longer behind k c) [
      | inl l ↦ of_longer k l
      | inr t ↦ is.within k (in_rest k (Contains-append_right before behind k t))
    ];
    old = λ k h. of_old k (is.old k h);
    new = up_to;
  }

pub merged_all : (count from place : ℕ) (merged rest : List ℕ) → count ≤ place → IsMerged count from place merged rest → HasPlaces count (merged ++ rest)
merged_all count from place merged rest end is = record {
  within = bounded_members count (merged ++ rest) is.within;
  each = λ k h. elim (cases_lt k from) [
    | inl low ↦ is.old k low
    | inr high ↦ Contains-append_left merged rest k (is.new k high (omega (arith, h, end)))
  ];
}

-- places that have them all show what the flags show
pub same_places : (flags : List Bool) (order : List ℕ) → HasPlaces (length flags) order → SameElements (set_places flags) (filter (marked flags) order)
same_places flags order has =
    let all = range_with_len 0 (length flags) in (
      λ k c. let up = (from_filter (marked flags) all k c).1 in to_filter (marked flags) order k (has.each k (marked_within flags k up)) up,
      λ k c. let up = (from_filter (marked flags) order k c).1 in to_filter (marked flags) all k (range_has (length flags) k (marked_within flags k up)) up,
    )
