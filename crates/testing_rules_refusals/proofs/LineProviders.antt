-- The numbers of lines at each name that their rows provide, and that those whose rows meet a clause stand at the names of its alternatives.
use Rattle.std.proofs.Common.{◌≡◌, ℕ, zero, suc, ◌+◌, ◌-◌, ◌<◌, ◌≤◌, true, false, List, [], ◌∷◌, length, Some, None, sym, ap, ◌∙◌, subst, inl, inr, arith}
use Rattle.std.specs.Prelude.{Contains, filter}
use Rattle.std.specs.List.{All, range_with_len}
use Rattle.std.specs.List.Sorted.{IsStrictlyIncreasing, IsStrictlySortedBy}
use Rattle.std.specs.Option.{option_map_or}
use Rattle.std.specs.Ordering.{nat_cmp}
use Rattle.std.proofs.lemmas.Bool.{cases_lt, false≢true}
use Rattle.std.proofs.lemmas.Cmp.{nat_cmp_total}
use Rattle.std.proofs.lemmas.List.Elements.{All-contains}
use Rattle.std.proofs.lemmas.List.FromFn.{length-range_with_len, get_or-range_with_len}
use Rattle.std.proofs.lemmas.List.Kept.{IsStrictlyIncreasing-filter}
use Rattle.std.proofs.lemmas.Map.Keys.{sorted_from_strictly_increasing}
use Rattle.std.proofs.lemmas.Option.{same_Some, slice_get_past}
use Rattle.deb_control.specs.declared.relation.Alternative.{Alternative}
use Rattle.deb_control.specs.declared.relation.Clause.{Clause}
use Rattle.testing_install.specs.Index.{PlacesByName, provides_name, places_at}
use Rattle.testing_install.specs.Dependents.{IsNotedAt}
use Rattle.testing_install.specs.Satisfies.{satisfies, meets}
use Rattle.testing_install.proofs.Finding.{satisfies_provides}
use Rattle.testing_install_why.specs.declared.Step.{Step}
use Rattle.testing_rules_items.specs.Words.{Text}
use Rattle.testing_rules_model.specs.declared.suite.RowIn.{RowIn}
use Rattle.testing_rules_model.specs.SameMessages.{SameElements}
use Rattle.testing_rules_model.proofs.Least.{from_filter, to_filter}
use Rattle.testing_rules_model.proofs.Picks.{Rises}
use Rattle.testing_rules_model.proofs.Sets.{spread_from, spreads, rises-unique}
use Rattle.testing_rules_suites.proofs.Arranging.{at_some_of}
use Rattle.testing_rules_refusals.specs.steps.LineNumbers.{IsLineIndex, numbers_named}
use Rattle.testing_rules_refusals.specs.Needs.{RowNeed, need_by, need_at, is_provider, providers}
use Rattle.testing_rules_refusals.proofs.Coming.{some_of}

-- what is noted of the first n lines
pub record IsLineIndexTo (rows : List RowIn) (steps : List Step) (noted : PlacesByName) (n : ℕ) : Type 0 where
  pub within : (name : Text) → All (λ k. k < length steps + 1) (places_at noted name)
  pub complete : (name : Text) (k : ℕ) (l : RowNeed) → 0 < k → k < n + 1 → need_at rows steps k ≡ Some l → provides_name l.row.binary name ≡ true → Contains (places_at noted name) k

pub lines_none : (rows : List RowIn) (steps : List Step) (noted : PlacesByName) → ((name : List ℕ) → places_at noted name ≡ []) → IsLineIndexTo rows steps noted 0
lines_none rows steps noted e = record {
  within = λ name k d h. absurd (omega (arith, h, ap length (e name)));
  complete = λ name k l above below. absurd (omega (arith, above, below));
}

-- with a line more
pub lines_more : (rows : List RowIn) (steps : List Step) (old new : PlacesByName) (n : ℕ) (l : RowNeed) → n < length steps → need_at rows steps (n + 1) ≡ Some l
    → IsLineIndexTo rows steps old n → IsNotedAt (provides_name l.row.binary) old new (n + 1) → IsLineIndexTo rows steps new (n + 1)
lines_more rows steps old new n l h at to one = record {
  within = λ name. one.within name (length steps + 1) (omega (arith, h)) (to.within name);
  complete = λ name k m above below stands e. elim (cases_lt k (n + 1)) [
    | inl less ↦ one.stays name k (to.complete name k m above less stands e)
    | inr not ↦ (
        let same : k ≡ n + 1 = omega (arith, below, not) in
        let alike : m ≡ l = same_Some m l (sym stands ∙ ap (need_at rows steps) same ∙ at) in
        subst (Contains (places_at new name)) (sym same) (one.noted name (ap (λ (x : RowNeed). provides_name x.row.binary name) (sym alike) ∙ e)))
  ];
}

-- or with a number that has no line
pub lines_same : (rows : List RowIn) (steps : List Step) (noted : PlacesByName) (n : ℕ) → need_at rows steps (n + 1) ≡ None
    → IsLineIndexTo rows steps noted n → IsLineIndexTo rows steps noted (n + 1)
lines_same rows steps noted n at to = record {
  within = to.within;
  complete = λ name k m above below stands e. elim (cases_lt k (n + 1)) [
    | inl less ↦ to.complete name k m above less stands e
    | inr not ↦ (
        let same : n + 1 ≡ k = omega (arith, below, not) in
        let no : None ≡ Some m = sym at ∙ ap (need_at rows steps) same ∙ stands in
        cc)
  ];
}

pub lines_all : (rows : List RowIn) (steps : List Step) (noted : PlacesByName) (n : ℕ) → IsLineIndexTo rows steps noted n → length steps ≤ n → IsLineIndex rows steps noted
lines_all rows steps noted n to h = record {
  within = to.within;
  complete = λ name k l above below. to.complete name k l above (omega (arith, below, h));
}

-- Numbers in order.

in_range : (n k : ℕ) → 0 < k → k < n + 1 → Contains (range_with_len 1 n) k
in_range n k above below =
    let at : k - 1 < n = omega (arith, above, below) in
    (k - 1, omega (arith, at, length-range_with_len 1 n), omega (arith, above, get_or-range_with_len 1 n (k - 1) k at))

of_range : (n k : ℕ) → Contains (range_with_len 1 n) k → (0 < k) × (k < n + 1)
of_range n k c =
    let at : c.0 < n = omega (arith, c.1, length-range_with_len 1 n) in
    let is : 1 + c.0 ≡ k = sym (get_or-range_with_len 1 n c.0 k at) ∙ c.2 in
    (omega (arith, is), omega (arith, is, at))

range_increases : (n : ℕ) → IsStrictlyIncreasing (range_with_len 1 n)
range_increases n k h =
    let next : k + 1 < n = omega (arith, h, length-range_with_len 1 n) in
    let own : k < n = omega (arith, next) in
    omega (arith, get_or-range_with_len 1 n k 0 own, get_or-range_with_len 1 n (k + 1) 0 next)

rises_sorted : (ks : List ℕ) → IsStrictlySortedBy nat_cmp ks → Rises nat_cmp_total ks
unfolding IsStrictlySortedBy
rises_sorted [] h = tt
rises_sorted (k ∷ ks) h = (h.0, rises_sorted ks h.1)

rises_increasing : (ks : List ℕ) → IsStrictlyIncreasing ks → Rises nat_cmp_total ks
rises_increasing ks up = rises_sorted ks (sorted_from_strictly_increasing ks up)

module _ (rows : List RowIn) (steps : List Step) (noted : PlacesByName) (is : IsLineIndex rows steps noted) (clause : Clause) where
  -- no line has the number 0
  none_at_zero : is_provider rows steps clause 0 ≡ false
  none_at_zero =
      ap (λ o. option_map_or (λ (n : RowNeed). meets n.row.binary clause) (option_map_or (need_by rows) o None) false)
      (slice_get_past steps (length steps - 0) (omega arith))

  above_zero : (k : ℕ) → is_provider rows steps clause k ≡ true → 0 < k
  above_zero zero h = absurd (false≢true (sym none_at_zero ∙ h))
  above_zero (suc k) h = omega arith

  -- a line whose row meets the clause stands at the name of an alternative
  provider_named : (k : ℕ) → 0 < k → k < length steps + 1 → is_provider rows steps clause k ≡ true → Contains (numbers_named noted clause) k
  provider_named k above below h =
      let l = at_some_of (λ (n : RowNeed). meets n.row.binary clause) (need_at rows steps k) h in
      let a = some_of (satisfies l.0.row.binary) clause l.2 in
      spreads (λ (a : Alternative). places_at noted a.name) clause a.0 k a.1
      (is.complete a.0.name k l.0 above below l.1 (satisfies_provides l.0.row.binary a.0 a.2))

  named_within : (k : ℕ) → Contains (numbers_named noted clause) k → k < length steps + 1
  named_within k c =
      let s = spread_from (λ (a : Alternative). places_at noted a.name) clause k c in
      All-contains (λ j. j < length steps + 1) (places_at noted s.0.name) k (is.within s.0.name) s.2

  -- so those whose rows meet the clause are the providers, in their order
  pub providers_named : (named numbers : List ℕ) → named ≡ numbers_named noted clause → IsStrictlyIncreasing numbers → SameElements named numbers
      → filter (is_provider rows steps clause) numbers ≡ providers rows steps clause
  providers_named named numbers e up same =
      let test = is_provider rows steps clause in
      let range = range_with_len 1 (length steps) in
      rises-unique nat_cmp_total (filter test numbers) (filter test range)
      (rises_increasing (filter test numbers) (IsStrictlyIncreasing-filter test numbers up))
      (rises_increasing (filter test range) (IsStrictlyIncreasing-filter test range (range_increases (length steps)))) (
        λ k c.
            let f = from_filter test numbers k c in
            let below = named_within k (subst (λ ks. Contains ks k) e (same.1 k f.0)) in
            to_filter test range k (in_range (length steps) k (above_zero k f.1) below) f.1,
        λ k c.
            let f = from_filter test range k c in
            let r = of_range (length steps) k f.0 in
            to_filter test numbers k (same.0 k (subst (λ ks. Contains ks k) (sym e) (provider_named k r.0 r.1 f.1))) f.1,
      )
