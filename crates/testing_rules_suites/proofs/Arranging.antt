-- The places that come and leave by a move are its flags.
use Rattle.std.specs.Prelude.{ℕ, zero, suc, ◌+◌, ◌≤◌, ◌==◌, Bool, true, false, ◌&&◌, nat_le, List, [], ◌∷◌, ◌++◌, Contains, Option, Some, None, length}
use Rattle.std.specs.List.{slice_get, list_all}
use Rattle.std.specs.Option.{option_map_or}
use Rattle.std.specs.Str.{bytes_eq}
use Rattle.std.proofs.Common.{◌≡◌, refl, sym, ap, ◌∙◌, arith, inl, inr, ◌⊎◌}
use Rattle.std.proofs.lemmas.Bool.{false≢true, eq-eqb, eqb-true}
use Rattle.std.proofs.lemmas.Bool.Decides.{nat_tests}
use Rattle.std.proofs.lemmas.Option.{same_Some}
use Rattle.std.proofs.lemmas.Slice.Eq.{bytes_eq-Decides}
use Rattle.testing_install.specs.Closed.{marked}
use Rattle.testing_rules_model.specs.declared.facts.UploadIn.{UploadIn}
use Rattle.testing_rules_model.specs.declared.suite.RowIn.{RowIn}
use Rattle.testing_rules_suites.specs.steps.Changes.{comes_at, stands_of, stands_for, gives_way_to, has, IsMoveOf}
use Rattle.testing_rules_model.specs.Moves.{is_same_key, is_row_of, row_key}
use Rattle.testing_rules_model.specs.Unstable.{is_current}
use Rattle.testing_rules_model.specs.steps.SourceFilter.{hash_passes, passing_rows}
use Rattle.testing_rules_items.specs.Words.{Text}
use Rattle.testing_rules_suites.proofs.Changing.{row_that_comes, row_that_stands, row_that_gives_way}
use Rattle.testing_rules_suites.proofs.Lost.{any_of, some_of, contains_at, at_place, key_of_same}
use Rattle.testing_rules_model.proofs.Least.{from_filter, to_filter}
use Rattle.testing_rules_items.proofs.Members.{none_among}
use Rattle.testing_rules_suites.proofs.Moving.{IsMove, source_of_group}
use Rattle.testing_rules_model.proofs.Sets.{first_or_rest}

both : (a b : Bool) → a ≡ true → b ≡ true → (a && b) ≡ true
both a b h k = ap (λ x. x && b) h ∙ k

first_of_both : (a b : Bool) → (a && b) ≡ true → a ≡ true
first_of_both true b h = refl
first_of_both false b h = absurd (false≢true h)

second_of_both : (a b : Bool) → (a && b) ≡ true → b ≡ true
second_of_both true b h = h
second_of_both false b h = absurd (false≢true h)

pub at_some_of : {A : Type 0} (test : A → Bool) (m : Option A) → option_map_or test m false ≡ true → (r : A) × (m ≡ Some r) × (test r ≡ true)
at_some_of test None h = absurd (false≢true h)
at_some_of test (Some r) h = (r, refl, h)

-- a place that stands in a list
pub from_has : (ks : List ℕ) (k : ℕ) → has ks k ≡ true → Contains ks k
from_has ks k h = let s = some_of (λ j. j == k) ks h in contains_at ks s.0 k (s.2 ∙ ap Some (eqb-true s.1 k s.3))

pub to_has : (ks : List ℕ) (k : ℕ) → Contains ks k → has ks k ≡ true
to_has ks k c = any_of (λ j. j == k) ks k c (eq-eqb k k refl)

le_from : (a b : ℕ) → nat_le a b ≡ true → a ≤ b
le_from a b h = grind (arith, nat_tests)

le_to : (a b : ℕ) → a ≤ b → nat_le a b ≡ true
le_to a b h = grind (arith, nat_tests)

-- what stands behind the first of two lists
behind : {A : Type 0} (xs ys : List A) (k : ℕ) (r : A) → length xs ≤ k → slice_get (xs ++ ys) k ≡ Some r → Contains ys r
behind [] ys k r h at = contains_at ys k r at
behind (x ∷ xs) ys zero r h at = absurd (omega (arith, h))
behind (x ∷ xs) ys (suc k) r h at = behind xs ys k r (omega (arith, h)) at

ahead : {A : Type 0} (xs ys : List A) (i : ℕ) (r : A) (k : ℕ) → k ≡ length xs + i → slice_get ys i ≡ Some r → slice_get (xs ++ ys) k ≡ Some r
ahead [] ys i r k e at = ap (slice_get ys) (let same : k ≡ i = omega (arith, e) in same) ∙ at
ahead (x ∷ xs) ys i r zero e at = absurd (omega (arith, e))
ahead (x ∷ xs) ys i r (suc k) e at = ahead xs ys i r k (omega (arith, e)) at

same_key_of : (q r : RowIn) → row_key q ≡ row_key r → is_same_key q r ≡ true
same_key_of q r e =
    both (q.arch == r.arch) (bytes_eq q.binary.name r.binary.name) (eq-eqb q.arch r.arch (ap (λ (p : ℕ × Text). p.0) e)) ((bytes_eq-Decides q.binary.name r.binary.name).1 (ap (λ (p : ℕ × Text). p.1) e))

-- what all of some elements pass, each of them does
one_of_all : {A : Type 0} (test : A → Bool) (xs : List A) (x : A) → list_all test xs ≡ true → Contains xs x → test x ≡ true
one_of_all test [] x h c = none_among x c
one_of_all test (y ∷ xs) x h c = elim (first_or_rest y xs x c) [
  | inl own ↦ ap test (sym own) ∙ first_of_both (test y) (list_all test xs) h
  | inr rest ↦ one_of_all test xs x (second_of_both (test y) (list_all test xs) h) rest
]

-- the pool has, behind the rows before the run, those of unstable whose source is a candidate, and the group names candidates alone
module _ (old unstable : List RowIn) (candidates : List ℕ) (stands : List Bool) (sources : List UploadIn) (group : List Text) (leaving coming : List ℕ)
    (m : IsMoveOf (old ++ passing_rows candidates unstable) stands (length old) sources group leaving coming) (offered : list_all (hash_passes candidates) group ≡ true) where
  abbrev pool : List RowIn
  pool = old ++ passing_rows candidates unstable

  abbrev is_kept : RowIn → Bool
  is_kept r = hash_passes candidates r.binary.source

  abbrev first : ℕ
  first = length old

  leaves_by : (k : ℕ) (r : RowIn) → slice_get pool k ≡ Some r
      → ((name : Text) × Contains group name × (stands_of pool stands name k ≡ true)) ⊎ ((j : ℕ) × Contains coming j × (gives_way_to pool stands j k ≡ true))
      → (is_row_of group r ≡ true) ⊎ ((j : ℕ) × (q : RowIn) × (slice_get pool j ≡ Some q) × (has coming j ≡ true) × (row_key q ≡ row_key r))
  leaves_by k r at (inl own) =
      let w = row_that_stands pool stands own.0 k own.2 in
      let same : w.0 ≡ r = same_Some w.0 r (sym w.1 ∙ at) in
      inl (any_of (bytes_eq r.binary.source) group own.0 own.1 (ap (λ (q : RowIn). bytes_eq q.binary.source own.0) (sym same) ∙ w.2))
  leaves_by k r at (inr key) =
      let q = at_some_of (λ (x : RowIn). stands_for pool stands x k) (slice_get pool key.0) key.2 in
      let w = row_that_gives_way pool stands q.0 k q.2 in
      let same : w.0 ≡ r = same_Some w.0 r (sym w.1 ∙ at) in
      inr (key.0, q.0, q.1, to_has coming key.0 key.1, key_of_same q.0 w.0 w.2 ∙ ap row_key same)

  pub move_of_places : IsMove pool (marked stands) sources unstable group (has leaving) (has coming)
  move_of_places = record {
    comes = λ k h.
        let a = m.arriving.sound k (from_has coming k h) in
        let r = row_that_comes pool first a.0 k a.2 in
        let from : first ≤ k = le_from first k (first_of_both (nat_le first k) _ a.2) in
        (r.0, a.0, r.1, (from_filter is_kept unstable r.0 (behind old (passing_rows candidates unstable) k r.0 from r.1)).0, a.1, r.2);
    coming_all = λ r u c d current.
        let kept = to_filter is_kept unstable r c (one_of_all (hash_passes candidates) group r.binary.source offered (source_of_group sources group u r d current)) in
        let k = first + kept.0 in
        let at = ahead old (passing_rows candidates unstable) kept.0 r k refl (at_place (passing_rows candidates unstable) r kept) in
        let comes : comes_at pool first u k ≡ true = both (nat_le first k) _ (le_to first k (omega arith)) (ap (λ o. option_map_or (is_current u) o false) at ∙ current) in
        (k, at, to_has coming k (m.arriving.complete u k d comes));
    leaves = λ k r at h. leaves_by k r at (m.only k (from_has leaving k h));
    leaving_group = λ k r at up h.
        let s = some_of (bytes_eq r.binary.source) group h in
        let stands_there : stands_of pool stands s.1 k ≡ true = both (marked stands k) _ up (ap (λ o. option_map_or (λ (q : RowIn). bytes_eq q.binary.source s.1) o false) at ∙ s.3) in
        to_has leaving k (m.own s.1 k (contains_at group s.0 s.1 s.2) stands_there);
    leaving_key = λ k r j q at up there came key.
        let stands_there : stands_for pool stands q k ≡ true = both (marked stands k) _ up (ap (λ o. option_map_or (is_same_key q) o false) at ∙ same_key_of q r key) in
        to_has leaving k (m.giving_way j k (from_has coming j came) (ap (λ o. option_map_or (λ (x : RowIn). stands_for pool stands x k) o false) there ∙ stands_there));
  }
