-- Where all of the rows are there.
use Rattle.std.proofs.Common.{◌≡◌, ℕ, ◌+◌, ◌<◌, Bool, true, false, List, [], ◌∷◌, ◌++◌, length, get_or, slice_index_or, replicate, refl, sym, ap, ◌∙◌, subst, inl, inr, arith}
use Rattle.std.specs.List.{range_with_len}
use Rattle.std.specs.Prelude.{Contains, ◌↔◌}
use Rattle.std.proofs.lemmas.Bool.{cases_lt}
use Rattle.std.proofs.lemmas.List.{get_or_append_left, get_or_push, length-replicate}
use Rattle.std.proofs.lemmas.List.FromFn.{length-range_with_len, get_or-range_with_len}
use Rattle.std.proofs.lemmas.Option.{slice_get_within}
use Rattle.deb_control.specs.declared.binary.Binary.{Binary}
use Rattle.testing_install.specs.Among.{IsInstallableAmong, after_change}
use Rattle.testing_install.specs.Closed.{IsInstallable, marked}
use Rattle.testing_install.specs.Installable.{are_installable}
use Rattle.testing_install.proofs.Choosing.{answers_computed}
use Rattle.testing_install.proofs.Marking.{with_here}
use Rattle.testing_install_why.specs.declared.Step.{Step}
use Rattle.testing_install_why.specs.Certificate.{IsShownBy, everywhere}

-- a number below the count is one of the first places
first_has : (n k : ℕ) → k < n → Contains (range_with_len 0 n) k
first_has n k h = (k, omega (arith, h, length-range_with_len 0 n), get_or-range_with_len 0 n k k h ∙ (let same : 0 + k ≡ k = omega arith in same))

-- where all places come, each is marked
pub all_come : (there : List Bool) (n k : ℕ) → length there ≡ n → k < n → marked (after_change [] (range_with_len 0 n) there) k ≡ true
all_come there n k long h = with_here true (range_with_len 0 n) there k (omega (arith, long, h)) (first_has n k h)

-- the first places lie within a list of so many
pub first_within : (ks : List ℕ) (n m k d : ℕ) → ks ≡ range_with_len 0 n → n ≡ m → k < length ks → slice_index_or ks k d < m
first_within ks n m k d e same h =
    let below : k < n = omega (arith, h, ap length e, length-range_with_len 0 n) in
    let at : get_or ks k d ≡ 0 + k = ap (λ xs. get_or xs k d) e ∙ get_or-range_with_len 0 n k d below in
    omega (arith, at, below, same)

-- so many rows, none of which is there yet: once all places came, each of them is
pub all_there_now : (count k n : ℕ) (rows : List Binary) (old there : List Bool) (ks : List ℕ) → old ≡ replicate count false → length rows ≡ count → n ≡ length rows
    → ks ≡ range_with_len 0 n → there ≡ after_change [] ks old → k < length rows → marked there k ≡ true
all_there_now count k n rows old there ks o long same e t h =
    let size : length old ≡ n = omega (arith, ap length o, length-replicate count false, long, same) in
    let below : k < n = omega (arith, h, same) in
    subst (λ m. marked m k ≡ true) (sym (t ∙ ap (λ xs. after_change [] xs old) e)) (all_come old n k size below)

-- a groundless list over all rows, as one where each is there
pub shown_everywhere : (rows : List Binary) (there : ℕ → Bool) (place : ℕ) (steps : List Step) → ((k : ℕ) → k < length rows → there k ≡ true)
    → IsShownBy rows there place steps → IsShownBy rows everywhere place steps
shown_everywhere rows there place steps all s = record {
  front = s.front;
  last = s.last;
  ends = s.ends;
  same = s.same;
  groundless = record {
    each = λ n step at.
        let f = s.groundless.each n step at in
        record { is = f.is; here = refl; unmet = λ k other stands on does. f.unmet k other stands (all k (slice_get_within rows k other stands)) does };
  };
}

-- what is installable among the rows that are there is installable
pub installable_anyway : (rows : List Binary) (there : ℕ → Bool) (place : ℕ) → IsInstallableAmong rows there place → IsInstallable rows place
installable_anyway rows there place i = (i.0, i.1, i.3, i.4)

-- and where each row is there, the other way round
installable_among : (rows : List Binary) (there : ℕ → Bool) (place : ℕ) → ((k : ℕ) → k < length rows → there k ≡ true) → IsInstallable rows place → IsInstallableAmong rows there place
installable_among rows there place all i = (i.0, i.1, λ k h on. all k h, i.2, i.3)

-- one answer more
pub exact_more : (rows : List Binary) (there : ℕ → Bool) (marks : List Bool) (n : ℕ) (b : Bool) → length marks ≡ n
    → ((k : ℕ) → k < n → (marked marks k ≡ true) ↔ IsInstallableAmong rows there k) → (b ≡ true) ↔ IsInstallableAmong rows there n
    → (k : ℕ) → k < n + 1 → (marked (marks ++ b ∷ []) k ≡ true) ↔ IsInstallableAmong rows there k
exact_more rows there marks n b long exact one k h = elim (cases_lt k n) [
  | inl less ↦ subst (λ m. (m ≡ true) ↔ IsInstallableAmong rows there k) (sym (get_or_append_left marks (b ∷ []) false k (omega (arith, less, long)))) (exact k less)
  | inr not ↦ (
      let same : n ≡ k = omega (arith, h, not) in
      subst (λ m. (m ≡ true) ↔ IsInstallableAmong rows there k) (sym (get_or_push marks b false k (long ∙ same))) (subst (λ j. (b ≡ true) ↔ IsInstallableAmong rows there j) same one))
]

-- the answers of all rows are those that the definition computes
pub marks_computed : (rows : List Binary) (there : ℕ → Bool) (marks : List Bool) (n : ℕ) → length marks ≡ n → length rows ≡ n → ((k : ℕ) → k < length rows → there k ≡ true)
    → ((k : ℕ) → k < n → (marked marks k ≡ true) ↔ IsInstallableAmong rows there k) → marks ≡ are_installable rows
marks_computed rows there marks n long all_long all exact = answers_computed rows marks n long all_long (λ k h. (
  λ on. installable_anyway rows there k ((exact k h).0 on),
  λ i. (exact k h).1 (installable_among rows there k all i),
))
