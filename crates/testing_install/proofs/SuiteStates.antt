-- A suite is right as it begins, and what it says is what the definition says.
use Rattle.std.proofs.Common.{◌≡◌, ℕ, zero, suc, ◌-◌, ◌<◌, ◌↔◌, Bool, true, false, ◌&&◌, ◌||◌, not, filter, ◌⊎◌, eqb, List, [], ◌++◌, length, get_or, replicate, Some, sym, refl, ap, ◌∙◌, subst, ⊎_elim, inl, inr, arith}
use Rattle.std.specs.List.{slice_get, Contains}
use Rattle.std.proofs.lemmas.Option.{slice_get_within, same_Some}
use Rattle.std.proofs.lemmas.Bool.{cases_Bool, false≢true, or_cases, or_right, and_parts, cases_eq, not-true, eq-eqb, eqb-true}
use Rattle.std.proofs.lemmas.List.{length-replicate, length-append}
use Rattle.deb_control.specs.declared.binary.Binary.{Binary}
use Rattle.testing_install.specs.Closed.{IsClosed, IsInside, IsInstallable, marked}
use Rattle.testing_install.specs.Among.{IsLost, IsInstallableAmong, IsListOf}
use Rattle.testing_install.specs.steps.Among.{IsGreatestAmong}
use Rattle.testing_install.specs.Index.{PlacesByName}
use Rattle.testing_install.specs.steps.Dependents.{IsGraph}
use Rattle.testing_install.specs.steps.Suite.{IsRight, IsChanged, IsSuite}
use Rattle.testing_install.specs.Tracked.{Tracked}
use Rattle.testing_install.specs.steps.Tracked.{longer}
use Rattle.testing_install.proofs.Members.{in_filter, from_filter}
use Rattle.testing_install.proofs.Sweeping.{met_by_larger}
use Rattle.testing_install.proofs.Marking.{mark_within, marked_longer}
use Rattle.testing_install.proofs.Sharing.{slice_get_before}
use Rattle.testing_install.proofs.Counting.{slice_get_some}

-- a suite of no rows
pub suite_empty : (rows : List Binary) (providers dependents : PlacesByName) (there installable : Tracked) → rows ≡ [] → there ≡ record { current = []; kept = [] } → installable ≡ record { current = []; kept = [] } → IsGraph [] providers dependents → IsSuite rows providers dependents there installable
suite_empty rows providers dependents there installable er et ei graph =
    let none : Tracked = record { current = []; kept = [] } in
    let begun : IsSuite [] providers dependents none none = record {
      graph = graph;
      right = record {
        there_len = refl;
        installable_len = refl;
        greatest = record {
          inside = λ k on. on;
          closed = λ k row at on. absurd (false≢true on);
          greatest = λ other closed within k h. absurd (omega (arith, h));
        };
      };
      there_kept = refl;
      installable_kept = refl;
    } in
    subst (λ rs. IsSuite rs providers dependents there installable) (sym er) (subst (λ t. IsSuite [] providers dependents t installable) (sym et) (subst (λ t. IsSuite [] providers dependents none t) (sym ei) begun))

-- more rows behind, none of which is there
module _ (rows more : List Binary) (there installable : List Bool) (n : ℕ) (right : IsRight rows there installable) where
  in_front : (k : ℕ) (row : Binary) → k < length rows → slice_get (rows ++ more) k ≡ Some row → slice_get rows k ≡ Some row
  in_front k row h at = sym (slice_get_before rows more k h) ∙ at

  below : (k : ℕ) → marked (there ++ replicate n false) k ≡ true → k < length rows
  below k on = omega (arith, mark_within there k (sym (marked_longer there n k) ∙ on), right.there_len)

  -- a closed set of all the rows that is inside those that are there is one of the rows in front
  front_closed : (other : ℕ → Bool) → IsClosed (rows ++ more) other → IsInside (rows ++ more) other (marked (there ++ replicate n false)) → IsClosed rows other
  front_closed other closed within k row at on i d h =
      let m = closed k row (slice_get_before rows more k (slice_get_within rows k row at) ∙ at) on i d h in
      let here = below m.0 (within m.0 (slice_get_within (rows ++ more) m.0 m.1 m.2) m.3) in
      (m.0, m.1, in_front m.0 m.1 here m.2, m.3, m.4)

  greatest_longer : IsGreatestAmong (rows ++ more) (marked (there ++ replicate n false)) (marked (installable ++ replicate n false))
  greatest_longer = record {
    inside = λ k on. marked_longer there n k ∙ right.greatest.inside k (sym (marked_longer installable n k) ∙ on);
    closed = λ k row at on i d h.
        let was : marked installable k ≡ true = sym (marked_longer installable n k) ∙ on in
        let here : k < length rows = omega (arith, mark_within installable k was, right.installable_len) in
        let m = right.greatest.closed k row (in_front k row here at) was i d h in
        (m.0, m.1, slice_get_before rows more m.0 (slice_get_within rows m.0 m.1 m.2) ∙ m.2, marked_longer installable n m.0 ∙ m.3, m.4);
    greatest = λ other closed within k h on.
        let inside : IsInside rows other (marked there) = λ j l o. sym (marked_longer there n j) ∙ within j (omega (arith, l, length-append rows more)) o in
        marked_longer installable n k ∙ right.greatest.greatest other (front_closed other closed within) inside k (below k (within k h on)) on;
  }

  pub right_longer : n ≡ length more → IsRight (rows ++ more) (there ++ replicate n false) (installable ++ replicate n false)
  right_longer e = record {
    there_len = omega (arith, length-append there (replicate n false), length-append rows more, length-replicate n false, right.there_len, e);
    installable_len = omega (arith, length-append installable (replicate n false), length-append rows more, length-replicate n false, right.installable_len, e);
    greatest = greatest_longer;
  }

-- the marks behind are as many as the new rows
pub behind : (rows more all : List Binary) (marks : List Bool) (m : ℕ) → all ≡ rows ++ more → m ≡ length all → length marks ≡ length rows → m - length marks ≡ length more
behind rows more all marks m are size long = omega (arith, size, long, ap length are, length-append rows more)

pub suite_longer : (rows more all : List Binary) (b0 n0 b1 n1 : PlacesByName) (there installable there1 installable1 : Tracked) (m m1 : ℕ) → all ≡ rows ++ more → m ≡ length all → m1 ≡ length all → IsSuite rows b0 n0 there installable → (IsGraph rows b0 n0 → IsGraph all b1 n1) → there1 ≡ longer m there → installable1 ≡ longer m1 installable → IsSuite all b1 n1 there1 installable1
suite_longer rows more all b0 n0 b1 n1 there installable there1 installable1 m m1 are size size1 s graph et ei =
    let n : ℕ = length more in
    let t : there.current ++ replicate (m - length there.current) false ≡ there.current ++ replicate n false = ap (λ k. there.current ++ replicate k false) (behind rows more all there.current m are size s.right.there_len) in
    let i : installable.current ++ replicate (m1 - length installable.current) false ≡ installable.current ++ replicate n false = ap (λ k. installable.current ++ replicate k false) (behind rows more all installable.current m1 are size1 s.right.installable_len) in
    let right : IsRight (rows ++ more) (there.current ++ replicate n false) (installable.current ++ replicate n false) = right_longer rows more there.current installable.current n s.right refl in
    let right_all : IsRight all (longer m there).current (longer m1 installable).current = subst (λ rs. IsRight rs (longer m there).current (longer m1 installable).current) (sym are) (subst (λ xs. IsRight (rows ++ more) xs (longer m1 installable).current) (sym t) (subst (λ xs. IsRight (rows ++ more) (there.current ++ replicate n false) xs) (sym i) right)) in
    let begun : IsSuite all b1 n1 (longer m there) (longer m1 installable) = record {
      graph = graph s.graph;
      right = right_all;
      there_kept = ap (λ xs. xs ++ replicate (m - length xs) false) s.there_kept;
      installable_kept = ap (λ xs. xs ++ replicate (m1 - length xs) false) s.installable_kept;
    } in
    subst (λ x. IsSuite all b1 n1 x installable1) (sym et) (subst (λ x. IsSuite all b1 n1 (longer m there) x) (sym ei) begun)

-- which rows are there, with so many behind
pub there_longer : (rows more all : List Binary) (marks : List Bool) (m n : ℕ) → all ≡ rows ++ more → m ≡ length all → length marks ≡ length rows → length more ≡ n → marks ++ replicate (m - length marks) false ≡ marks ++ replicate n false
there_longer rows more all marks m n are size long new = ap (λ k. marks ++ replicate k false) (behind rows more all marks m are size long ∙ new)

-- the marks are exactly the installable rows
pub right_exact : (rows : List Binary) (there installable : List Bool) → IsRight rows there installable → (k : ℕ) → (marked installable k ≡ true) ↔ IsInstallableAmong rows (marked there) k
right_exact rows there installable r k = (
  (λ on. (marked installable, r.greatest.closed, (λ j h here. r.greatest.inside j here), omega (arith, mark_within installable k on, r.installable_len), on)),
  (λ some. r.greatest.greatest some.0 some.1 some.2 k some.3 some.4),
)

-- the rows that a change loses are those that fell and weren't there before, or were installable
pub lost_exact : (rows : List Binary) (t m t_new m_new : List Bool) (fallen lost : List ℕ) → IsRight rows t m → IsChanged rows t m t_new m_new fallen → (t_kept m_kept after : List Bool) → t_kept ≡ t → m_kept ≡ m → lost ≡ filter (λ k. marked m_kept k || not (marked t_kept k)) fallen → t_new ≡ after → (k : ℕ) → Contains lost k ↔ IsLost rows (marked t) (marked after) k
lost_exact rows t m t_new m_new fallen lost right changed t_kept m_kept after et em el ea k =
    let test : ℕ → Bool = λ j. marked m j || not (marked t j) in
    let same : lost ≡ filter test fallen = el ∙ ap (λ xs. filter (λ j. marked xs j || not (marked t_kept j)) fallen) em ∙ ap (λ xs. filter (λ j. marked m j || not (marked xs j)) fallen) et in (
      (λ c.
          let f = from_filter test fallen k (subst (λ xs. Contains xs k) same c) in
          let b = changed.broken k f.0 in
          let out : IsInstallableAmong rows (marked after) k → ⊥ = (λ some. false≢true (sym b.1 ∙ (right_exact rows t_new m_new changed.right k).1 (subst (λ (xs : List Bool). IsInstallableAmong rows (marked xs) k) (sym ea) some))) in
          let why : IsInstallableAmong rows (marked t) k ⊎ (marked t k ≡ false) = elim (or_cases (marked m k) (not (marked t k)) f.1) [
            | inl was ↦ inl ((right_exact rows t m right k).0 was)
            | inr new ↦ inr (not-true (marked t k) new)
          ] in
          (ap (λ (xs : List Bool). marked xs k) (sym ea) ∙ b.0, out, why)),
      (λ is_lost.
          let off : marked m_new k ≡ false = ⊎_elim
          (λ on. absurd (is_lost.1 (subst (λ (xs : List Bool). IsInstallableAmong rows (marked xs) k) ea ((right_exact rows t_new m_new changed.right k).0 on))))
          (λ none. none)
          (cases_Bool (marked m_new k)) in
          let why : (marked m k ≡ true) ⊎ (marked t k ≡ false) = elim is_lost.2 [
            | inl some ↦ inl ((right_exact rows t m right k).1 some)
            | inr new ↦ inr new
          ] in
          let passes : test k ≡ true = elim why [
            | inl was ↦ ap (λ b. b || not (marked t k)) was
            | inr new ↦ or_right (marked m k) (not (marked t k)) (ap (λ b. not b) new)
          ] in
          subst (λ xs. Contains xs k) (sym same) (in_filter test fallen k (changed.all k (ap (λ (xs : List Bool). marked xs k) ea ∙ is_lost.0) off why) passes)),
    )

-- the rows that are there, in any order

-- a set of the first n of a list, by the places that they have
abbrev pub by_place : (ℕ → ℕ) → (ℕ → Bool) → ℕ → ℕ → Bool
by_place place_of set zero p = false
by_place place_of set (suc n) p = (set n && eqb (place_of n) p) || by_place place_of set n p

to_places : (place_of : ℕ → ℕ) (set : ℕ → Bool) (n k : ℕ) → k < n → set k ≡ true → by_place place_of set n (place_of k) ≡ true
to_places place_of set zero k h on = absurd (omega (arith, h))
to_places place_of set (suc n) k h on = elim (cases_eq k n) [
  | inl e ↦ (
      let here : eqb (place_of n) (place_of k) ≡ true = eq-eqb (place_of n) (place_of k) (ap place_of (sym e)) in
      let has : set n ≡ true = ap set (sym e) ∙ on in
      let both : (set n && eqb (place_of n) (place_of k)) ≡ true = ap (λ b. b && eqb (place_of n) (place_of k)) has ∙ here in
      ap (λ b. b || by_place place_of set n (place_of k)) both)
  | inr differs ↦ or_right (set n && eqb (place_of n) (place_of k)) (by_place place_of set n (place_of k)) (to_places place_of set n k (omega (arith, h, differs)) on)
]

from_places : (place_of : ℕ → ℕ) (set : ℕ → Bool) (n p : ℕ) → by_place place_of set n p ≡ true → (k : ℕ) × (k < n) × (set k ≡ true) × (place_of k ≡ p)
from_places place_of set zero p on = absurd (false≢true on)
from_places place_of set (suc n) p on = elim (or_cases (set n && eqb (place_of n) p) (by_place place_of set n p) on) [
  | inl here ↦ (n, omega arith, (and_parts (set n) (eqb (place_of n) p) here).0, eqb-true (place_of n) p (and_parts (set n) (eqb (place_of n) p) here).1)
  | inr later ↦ (let r = from_places place_of set n p later in (r.0, omega (arith, r.1), r.2, r.3))
]

-- equal rows are installable alike

abbrev pub with_place : (ℕ → Bool) → ℕ → ℕ → Bool
with_place set q j = set j || eqb j q

twin_in : (set : ℕ → Bool) (q : ℕ) → with_place set q q ≡ true
twin_in set q = or_right (set q) (eqb q q) (eq-eqb q q refl)

twin_closed : (rows : List Binary) (set : ℕ → Bool) (p q : ℕ) (row : Binary) → slice_get rows p ≡ Some row → slice_get rows q ≡ Some row → set p ≡ true → IsClosed rows set → IsClosed rows (with_place set q)
twin_closed rows set p q row at_p at_q on closed j own at in_set i d h =
    let grown : IsInside rows set (with_place set q) = λ k l o. ap (λ b. b || eqb k q) o in
    elim (or_cases (set j) (eqb j q) in_set) [
      | inl was ↦ met_by_larger rows set (with_place set q) (get_or own.clauses i d) grown (closed j own at was i d h)
      | inr new ↦ (
          let alike : own ≡ row = same_Some own row (sym at ∙ ap (λ x. slice_get rows x) (eqb-true j q new) ∙ at_q) in
          let own_at : slice_get rows p ≡ Some own = at_p ∙ ap (λ (r : Binary). Some r) (sym alike) in
          met_by_larger rows set (with_place set q) (get_or own.clauses i d) grown (closed p own own_at on i d h))
    ]

twin_among : (rows : List Binary) (there : ℕ → Bool) (p q : ℕ) (row : Binary) → slice_get rows p ≡ Some row → slice_get rows q ≡ Some row → there q ≡ true → IsInstallableAmong rows there p → IsInstallableAmong rows there q
twin_among rows there p q row at_p at_q here some =
    let inside : IsInside rows (with_place some.0 q) there = λ j l o. elim (or_cases (some.0 j) (eqb j q) o) [
      | inl was ↦ some.2 j l was
      | inr new ↦ ap there (eqb-true j q new) ∙ here
    ] in
    (with_place some.0 q, twin_closed rows some.0 p q row at_p at_q some.4 some.1, inside, slice_get_within rows q row at_q, twin_in some.0 q)

twin_installable : (rows : List Binary) (p q : ℕ) (row : Binary) → slice_get rows p ≡ Some row → slice_get rows q ≡ Some row → IsInstallable rows p → IsInstallable rows q
twin_installable rows p q row at_p at_q some = (with_place some.0 q, twin_closed rows some.0 p q row at_p at_q some.3 some.1, slice_get_within rows q row at_q, twin_in some.0 q)

module _ (rows : List Binary) (there : ℕ → Bool) (listed : List Binary) (place_of number_of : ℕ → ℕ) (l : IsListOf rows there listed place_of number_of) where
  closed_in_list : (set : ℕ → Bool) → IsClosed rows set → IsInside rows set there → IsClosed listed (by_place number_of set (length rows))
  closed_in_list set closed within k row at on i d h =
      let found = from_places number_of set (length rows) k on in
      let own = slice_get_some rows found.0 found.1 in
      let numbered = l.numbered found.0 own.0 own.1 (within found.0 found.1 found.2) in
      let alike : row ≡ own.0 = same_Some row own.0 (sym at ∙ ap (λ x. slice_get listed x) (sym found.3) ∙ numbered) in
      let here : slice_get rows found.0 ≡ Some row = own.1 ∙ ap (λ (r : Binary). Some r) (sym alike) in
      let m = closed found.0 row here found.2 i d h in
      let inside = slice_get_within rows m.0 m.1 m.2 in
      (number_of m.0, m.1, l.numbered m.0 m.1 m.2 (within m.0 inside m.3), to_places number_of set (length rows) m.0 inside m.3, m.4)

  closed_in_rows : (set : ℕ → Bool) → IsClosed listed set → IsClosed rows (by_place place_of set (length listed))
  closed_in_rows set closed p row at on i d h =
      let found = from_places place_of set (length listed) p on in
      let own = slice_get_some listed found.0 found.1 in
      let alike : row ≡ own.0 = same_Some row own.0 (sym at ∙ ap (λ x. slice_get rows x) (sym found.3) ∙ (l.placed found.0 own.0 own.1).0) in
      let here : slice_get listed found.0 ≡ Some row = own.1 ∙ ap (λ (r : Binary). Some r) (sym alike) in
      let m = closed found.0 row here found.2 i d h in
      (place_of m.0, m.1, (l.placed m.0 m.1 m.2).0, to_places place_of set (length listed) m.0 (slice_get_within listed m.0 m.1 m.2) m.3, m.4)

  inside_there : (set : ℕ → Bool) → IsInside rows (by_place place_of set (length listed)) there
  inside_there set p h on =
      let found = from_places place_of set (length listed) p on in
      let own = slice_get_some listed found.0 found.1 in
      ap there (sym found.3) ∙ (l.placed found.0 own.0 own.1).1

  -- a row of the list is installable in the list exactly where it is among the rows that are there
  pub installable_in_list : (k p : ℕ) (row : Binary) → slice_get listed k ≡ Some row → slice_get rows p ≡ Some row → there p ≡ true → IsInstallable listed k ↔ IsInstallableAmong rows there p
  installable_in_list k p row at_k at_p here = (
    (λ some.
        let there_at = l.placed k row at_k in
        let among : IsInstallableAmong rows there (place_of k) = (by_place place_of some.0 (length listed), closed_in_rows some.0 some.1, inside_there some.0, slice_get_within rows (place_of k) row there_at.0, to_places place_of some.0 (length listed) k some.2 some.3) in
        twin_among rows there (place_of k) p row there_at.0 at_p here among),
    (λ some.
        let listed_at = l.numbered p row at_p here in
        let installable : IsInstallable listed (number_of p) = (by_place number_of some.0 (length rows), closed_in_list some.0 some.1 some.2, slice_get_within listed (number_of p) row listed_at, to_places number_of some.0 (length rows) p some.3 some.4) in
        twin_installable listed (number_of p) k row listed_at at_k installable),
  )
