-- Which rows are installable doesn't depend on rows that aren't there: an architecture loses the same rows among its own as among all.
use Rattle.std.specs.Prelude.{ℕ, ◌<◌, ◌↔◌, Bool, true, false, ◌&&◌, ◌||◌, not, List, length, Contains, Option, Some, map, filter}
use Rattle.std.specs.List.{slice_get}
use Rattle.std.specs.Option.{option_map_or}
use Rattle.std.proofs.Common.{◌≡◌, refl, sym, ap, ap₂, ◌∙◌, subst, arith, ⊎_elim, inl, inr, ◌⊎◌}
use Rattle.std.proofs.lemmas.Bool.{false≢true}
use Rattle.std.proofs.lemmas.Option.{same_Some, slice_get_within}
use Rattle.deb_control.specs.declared.binary.Binary.{Binary}
use Rattle.testing_install.specs.Among.{IsLost, after_change}
use Rattle.testing_install.specs.Closed.{marked}
use Rattle.testing_install.proofs.Counting.{slice_get_some}
use Rattle.testing_rules_model.specs.declared.suite.RowIn.{RowIn}
use Rattle.testing_rules_suites.specs.steps.Changes.{has}
use Rattle.testing_rules_model.specs.steps.Moves.{is_row_on}
use Rattle.testing_rules_suites.specs.steps.ArchRows.{ArchRows, AreNumbers, AreLostFrom}
use Rattle.testing_rules_suites.specs.steps.PresentSteps.{IsOn, IsOver, IsSuiteOn}
use Rattle.testing_rules_suites.specs.steps.Trials.{is_place_on, names_at, IsFirstLost}
use Rattle.testing_rules_items.specs.Words.{Text, byte_cmp, least}
use Rattle.testing_rules_suites.proofs.Arranging.{from_has, to_has}
use Rattle.testing_rules_suites.proofs.Flags.{flags_after, flag_within}
use Rattle.testing_rules_suites.proofs.Judging.{has_filter, same_bit}
use Rattle.testing_rules_model.proofs.Listed.{IsAmong, carried}
use Rattle.testing_rules_suites.proofs.Lost.{get_map, of_map}
use Rattle.testing_rules_suites.proofs.Parts.{count_over, row_of_number, number_of_row}

-- the rows of the architecture that are there, by their numbers and by their places
module _ (arch : ℕ) (pool : List RowIn) (suite : ArchRows) (over : IsOver arch pool suite) where
  abbrev own : List Binary
  own = suite.suite.rows

  abbrev rows : List Binary
  rows = map (λ r. r.binary) pool

  -- the flags are the same, and no row of another architecture is there
  pub record AreSame (here there : ℕ → Bool) : Type 0 where
    pub same : (i k : ℕ) → slice_get suite.places i ≡ Some k → here i ≡ there k
    pub only : (k : ℕ) (r : RowIn) → slice_get pool k ≡ Some r → there k ≡ true → is_row_on arch r ≡ true

  package_is : (k : ℕ) (r : RowIn) → slice_get pool k ≡ Some r → slice_get rows k ≡ Some r.binary
  package_is k r at = get_map (λ (r : RowIn). r.binary) pool k r at

  module _ (here there : ℕ → Bool) (are : AreSame here there) where
    to_pool : (i : ℕ) (row : Binary) → slice_get own i ≡ Some row → here i ≡ true → (k : ℕ) × (slice_get rows k ≡ Some row) × (there k ≡ true)
    to_pool i row at on =
        let p = slice_get_some suite.places i (omega (arith, count_over arch pool suite over, slice_get_within own i row at)) in
        let r = row_of_number arch pool suite over i p.0 p.1 in
        (p.0, package_is p.0 r.0 r.1 ∙ sym r.3 ∙ at, sym (are.same i p.0 p.1) ∙ on)

    from_pool : (k : ℕ) (row : Binary) → slice_get rows k ≡ Some row → there k ≡ true → (i : ℕ) × (slice_get own i ≡ Some row) × (here i ≡ true)
    from_pool k row at on =
        let q = of_map (λ (r : RowIn). r.binary) pool k row at in
        let i = number_of_row arch pool suite over k q.0 q.1 (are.only k q.0 q.1 on) in
        let r = row_of_number arch pool suite over i.0 k i.1 in
        let same : r.0 ≡ q.0 = same_Some r.0 q.0 (sym r.1 ∙ q.1) in
        (i.0, r.3 ∙ ap (λ (r : RowIn). Some r.binary) same ∙ ap (λ (b : Binary). Some b) q.2, are.same i.0 k i.1 ∙ on)

    -- a row is installable among the rows of the architecture where it is so among all
    among_own : (i k : ℕ) → slice_get suite.places i ≡ Some k → IsAmong own here i ↔ IsAmong rows there k
    among_own i k at =
        let r = row_of_number arch pool suite over i k at in
        let now = package_is k r.0 r.1 in (
          λ some. carried own rows here there to_pool i k r.0.binary r.3 now (sym (are.same i k at) ∙ some.2 i some.3 some.4) some,
          λ some. carried rows own there here from_pool k i r.0.binary now r.3 (are.same i k at ∙ some.2 k some.3 some.4) some,
        )

  module _ (before stood after stands : ℕ → Bool) (were : AreSame before stood) (are : AreSame after stands) where
    -- and is lost there where it is lost among all
    lost_own : (i k : ℕ) → slice_get suite.places i ≡ Some k → IsLost own before after i ↔ IsLost rows stood stands k
    lost_own i k at =
        let old = among_own before stood were i k at in
        let new = among_own after stands are i k at in
        let was = were.same i k at in
        let is = are.same i k at in (
          λ lost. (
            sym is ∙ lost.0,
            λ some. lost.1 (new.1 some),
            ⊎_elim (λ some. inl (old.0 some)) (λ none. inr (sym was ∙ none)) lost.2,
          ),
          λ lost. (
            is ∙ lost.0,
            λ some. lost.1 (new.0 some),
            ⊎_elim (λ some. inl (old.1 some)) (λ none. inr (was ∙ none)) lost.2,
          ),
        )

    -- the places of the rows that are lost
    pub lost_places : ((k : ℕ) → stands k ≡ true → k < length pool) → (places : List ℕ)
        → ((k : ℕ) → Contains places k ↔ ((i : ℕ) × (slice_get suite.places i ≡ Some k) × IsLost own before after i))
        → (k : ℕ) → Contains places k ↔ IsLost rows stood stands k
    lost_places within places exact k = (
      λ c. let l = (exact k).0 c in (lost_own l.0 k l.1).0 l.2,
      λ lost.
          let r = slice_get_some pool k (within k lost.0) in
          let i = number_of_row arch pool suite over k r.0 r.1 (are.only k r.0 r.1 lost.0) in
          (exact k).1 (i.0, i.1, (lost_own i.0 k i.1).1 lost),
    )

-- a number is among those of some places where its place is
pub has_number : (firsts places numbers : List ℕ) → AreNumbers firsts places numbers → (i k : ℕ) → slice_get firsts i ≡ Some k → has numbers i ≡ has places k
has_number firsts places numbers are i k at =
    same_bit (has numbers i) (has places k)
    (λ h. let s = are.sound i (from_has numbers i h) in to_has places k (subst (Contains places) (same_Some s.0 k (sym s.1 ∙ at)) s.2))
    (λ h. to_has numbers i (are.complete i k at (from_has places k h)))

either_of : (a b : Bool) → (a || b) ≡ true → (a ≡ true) ⊎ (b ≡ true)
either_of true b h = inl refl
either_of false b h = inr h

first_of_both : (a b : Bool) → (a && b) ≡ true → a ≡ true
first_of_both true b h = refl
first_of_both false b h = absurd (false≢true h)

second_of_both : (a b : Bool) → (a && b) ≡ true → b ≡ true
second_of_both true b h = h
second_of_both false b h = absurd (false≢true h)

and-true : (b : Bool) → (b && true) ≡ b
and-true true = refl
and-true false = refl

module _ (arch : ℕ) (pool : List RowIn) (suite : ArchRows) (stands there : List Bool) (own : IsSuiteOn arch pool stands suite) (long : length there ≡ length pool)
    (on : IsOn arch pool (marked stands) (marked there)) (leaving coming lost : List ℕ) (from : AreLostFrom suite leaving coming lost) where
  abbrev coming_on : List ℕ
  coming_on = filter (is_place_on arch pool) coming

  abbrev stands_then : ℕ → Bool
  stands_then = marked (after_change leaving coming_on there)

  were : AreSame arch pool suite own.over (marked suite.suite.there) (marked there)
  were = record {
    same = λ i k at.
        let r = row_of_number arch pool suite own.over i k at in
        own.stand i k at ∙ sym (on.on k r.0 r.1 ∙ ap (λ b. marked stands k && b) r.2 ∙ and-true (marked stands k));
    only = λ k r at h. second_of_both (marked stands k) (is_row_on arch r) (sym (on.on k r at) ∙ h);
  }

  comes_there : (i k : ℕ) → slice_get suite.places i ≡ Some k → has from.after.came i ≡ has coming_on k
  comes_there i k at =
      let r = row_of_number arch pool suite own.over i k at in
      let passes : is_place_on arch pool k ≡ true = ap (λ o. option_map_or (is_row_on arch) o false) r.1 ∙ r.2 in
      has_number suite.places coming from.after.came from.after.came_are i k at
      ∙ sym (has_filter (is_place_on arch pool) coming k ∙ ap (λ b. has coming k && b) passes ∙ and-true (has coming k))

  are : AreSame arch pool suite own.over (marked from.there) stands_then
  are = record {
    same = λ i k at.
        let r = row_of_number arch pool suite own.over i k at in
        ap (λ fs. marked fs i) from.after.exact
        ∙ flags_after from.after.left from.after.came suite.suite.there i (omega (arith, own.over.long, slice_get_within suite.places i k at))
        ∙ ap₂ (λ c t. c || t) (comes_there i k at)
        (ap₂ (λ t l. t && not l) (were.same i k at) (has_number suite.places leaving from.after.left from.after.left_are i k at))
        ∙ sym (flags_after leaving coming_on there k (omega (arith, slice_get_within pool k r.0 r.1, long)));
    only = λ k r at h.
        let flags = sym (flags_after leaving coming_on there k (omega (arith, slice_get_within pool k r at, long))) ∙ h in
        elim (either_of (has coming_on k) (marked there k && not (has leaving k)) flags) [
          | inl comes ↦
              let passes = second_of_both (has coming k) (is_place_on arch pool k) (sym (has_filter (is_place_on arch pool) coming k) ∙ comes) in
              ap (λ o. option_map_or (is_row_on arch) o false) (sym at) ∙ passes
          | inr stays ↦ were.only k r at (first_of_both (marked there k) (not (has leaving k)) stays)
        ];
  }

  -- the name of the first watched row among the places that the suite of the architecture loses
  pub lost_first : (name : Option Text) → name ≡ least byte_cmp (names_at arch pool lost) → IsFirstLost arch pool there leaving coming name
  lost_first name first = record {
    places = lost;
    exact = lost_places arch pool suite own.over (marked suite.suite.there) (marked there) (marked from.there) stands_then were are
        (λ k h. omega (arith, flag_within leaving coming_on there k h, long)) lost from.exact;
    first = first;
  }
