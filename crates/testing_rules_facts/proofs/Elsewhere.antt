-- Builds in order, of which the first and the last are of one architecture, are all of it.
use Rattle.std.specs.Prelude.{ℕ, ◌-◌, Bool, true, false, cond, not, ◌&&◌, List, [], ◌∷◌, ◌++◌, Some, length, map, filter}
use Rattle.std.specs.List.{slice_get, list_all}
use Rattle.std.specs.List.Sorted.{IsStrictlySortedBy}
use Rattle.std.specs.Str.{bytes_eq}
use Rattle.std.specs.declared.cmp.Ordering.{Ordering}
use Rattle.std.specs.declared.cmp.Ordering.TheVariants.{Less, Equal, Greater}
use Rattle.std.specs.Ordering.{is_gt, ordering_then, ordering_reverse}
use Rattle.std.proofs.Common.{◌≡◌, refl, sym, ap, ◌∙◌, subst, arith, append-nil, inl, inr}
use Rattle.std.proofs.lemmas.Bool.{cases_Bool, false≢true}
use Rattle.std.proofs.lemmas.Cmp.{upto, tied_itself}
use Rattle.std.proofs.lemmas.Slice.Eq.{bytes_eq-Decides}
use Rattle.testing_rules_model.specs.FactOrder.{AreByPair}
use Rattle.testing_rules_model.specs.Unstable.{pair_order, pair_of, row_at}
use Rattle.testing_rules_model.specs.steps.Unstable.{built_on}
use Rattle.testing_rules_facts.specs.steps.SourceFilter.{filter_passes, passing_builds}
use Rattle.testing_rules_items.specs.Words.{Text, byte_cmp}
use Rattle.testing_rules_model.specs.declared.facts.BuildIn.{BuildIn}
use Rattle.testing_rules_model.specs.declared.suite.RowIn.{RowIn}
use Rattle.testing_rules_facts.specs.declared.source_filter.SourceFilter.{SourceFilter}
use Rattle.testing_rules_model.proofs.MoreMail.{text_tied, both_are}
use Rattle.testing_rules_model.proofs.Orders.{text_order}

abbrev arch_of : BuildIn → Text
arch_of b = b.binary.architecture

first_decides : (r s : Ordering) → ordering_then r s ≡ Less → is_gt r ≡ false
first_decides Less s e = refl
first_decides Equal s e = refl
first_decides Greater s e = let never : ⊥ = cc in absurd never

-- of two builds in order the first is of no later architecture
not_later : (x y : BuildIn) → pair_order (pair_of x) (pair_of y) ≡ Less → is_gt (byte_cmp (arch_of x) (arch_of y)) ≡ false
not_later x y e = first_decides (byte_cmp (arch_of x) (arch_of y)) (byte_cmp x.binary.name y.binary.name) e

same_at : (r : Ordering) (a b : Text) → byte_cmp a b ≡ r → is_gt r ≡ false → is_gt (ordering_reverse r) ≡ false → a ≡ b
same_at Less a b e h k = absurd (false≢true (sym k))
same_at Equal a b e h k = text_tied a b e
same_at Greater a b e h k = absurd (false≢true (sym h))

-- texts neither of which is above the other
same_text : (a b : Text) → is_gt (byte_cmp a b) ≡ false → is_gt (byte_cmp b a) ≡ false → a ≡ b
same_text a b h k = same_at (byte_cmp a b) a b refl h (sym (ap is_gt (text_order.antisymm b a)) ∙ k)

abbrev last_of : BuildIn → List BuildIn → BuildIn
last_of x [] = x
last_of x (r ∷ rs) = last_of r rs

not_behind_last : (x : BuildIn) (rs : List BuildIn) → AreByPair (x ∷ rs) → is_gt (byte_cmp (arch_of x) (arch_of (last_of x rs))) ≡ false
unfolding IsStrictlySortedBy
not_behind_last x [] s = ap is_gt (tied_itself text_order (arch_of x))
not_behind_last x (r ∷ rs) s = upto text_order (arch_of x) (arch_of r) (arch_of (last_of r rs)) (not_later x r s.0.0) (not_behind_last r rs s.1)

module _ (arch : Text) where
  abbrev is_elsewhere : BuildIn → Bool
  is_elsewhere b = not (bytes_eq (arch_of b) arch)

  all_of_one : (x : BuildIn) (rs : List BuildIn) → AreByPair (x ∷ rs) → arch_of (last_of x rs) ≡ arch_of x → bytes_eq (arch_of x) arch ≡ false → list_all is_elsewhere (x ∷ rs) ≡ true
  unfolding IsStrictlySortedBy
  all_of_one x [] s e other = ap (λ b. not b && true) other
  all_of_one x (r ∷ rs) s e other =
      let same : arch_of r ≡ arch_of x = same_text (arch_of r) (arch_of x) (subst (λ t. is_gt (byte_cmp (arch_of r) t) ≡ false) e (not_behind_last r rs s.1)) (not_later x r s.0.0) in
      ap (λ b. not b && list_all is_elsewhere (r ∷ rs)) other ∙ all_of_one r rs s.1 (e ∙ sym same) (ap (λ t. bytes_eq t arch) same ∙ other)

  last_is : (x : BuildIn) (rs : List BuildIn) (y : BuildIn) → slice_get (x ∷ rs) (length rs) ≡ Some y → last_of x rs ≡ y
  last_is x [] y e = cc
  last_is x (r ∷ rs) y e = last_is r rs y e

  not_one : (b : Bool) → not b ≡ true → b ≡ false
  not_one true e = absurd (false≢true e)
  not_one false e = refl

  -- the first and the last are of one other architecture
  pub all_elsewhere : (rows : List BuildIn) (x y : BuildIn) → AreByPair rows → slice_get rows 0 ≡ Some x → slice_get rows (length rows - 1) ≡ Some y
      → (bytes_eq (arch_of x) (arch_of y) && not (bytes_eq (arch_of x) arch)) ≡ true → list_all is_elsewhere rows ≡ true
  all_elsewhere [] x y s first last e = refl
  all_elsewhere (r ∷ rs) x y s first last e =
      let parts = both_are (bytes_eq (arch_of x) (arch_of y)) (not (bytes_eq (arch_of x) arch)) e in
      let head : r ≡ x = cc in
      let end : last_of r rs ≡ y = last_is r rs y (subst (λ k. slice_get (r ∷ rs) k ≡ Some y) (let n : length (r ∷ rs) - 1 ≡ length rs = omega arith in n) last) in
      all_of_one r rs s (ap arch_of end ∙ sym ((bytes_eq-Decides (arch_of x) (arch_of y)).0 parts.0) ∙ ap arch_of (sym head)) (ap (λ (b : BuildIn). bytes_eq (arch_of b) arch) head ∙ not_one (bytes_eq (arch_of x) arch) parts.1)

  abbrev is_there : BuildIn → Bool
  is_there b = bytes_eq (arch_of b) arch

  all_of_this : (x : BuildIn) (rs : List BuildIn) → AreByPair (x ∷ rs) → arch_of (last_of x rs) ≡ arch_of x → bytes_eq (arch_of x) arch ≡ true → list_all is_there (x ∷ rs) ≡ true
  unfolding IsStrictlySortedBy
  all_of_this x [] s e this = ap (λ b. b && true) this
  all_of_this x (r ∷ rs) s e this =
      let same : arch_of r ≡ arch_of x = same_text (arch_of r) (arch_of x) (subst (λ t. is_gt (byte_cmp (arch_of r) t) ≡ false) e (not_behind_last r rs s.1)) (not_later x r s.0.0) in
      ap (λ b. b && list_all is_there (r ∷ rs)) this ∙ all_of_this r rs s.1 (e ∙ sym same) (ap (λ t. bytes_eq t arch) same ∙ this)

  -- the first and the last are of the architecture
  pub all_there : (rows : List BuildIn) (x y : BuildIn) → AreByPair rows → slice_get rows 0 ≡ Some x → slice_get rows (length rows - 1) ≡ Some y
      → (bytes_eq (arch_of x) arch && bytes_eq (arch_of y) arch) ≡ true → list_all is_there rows ≡ true
  all_there [] x y s first last e = refl
  all_there (r ∷ rs) x y s first last e =
      let parts = both_are (bytes_eq (arch_of x) arch) (bytes_eq (arch_of y) arch) e in
      let head : r ≡ x = cc in
      let end : last_of r rs ≡ y = last_is r rs y (subst (λ k. slice_get (r ∷ rs) k ≡ Some y) (let n : length (r ∷ rs) - 1 ≡ length rs = omega arith in n) last) in
      let lowest : arch_of x ≡ arch = (bytes_eq-Decides (arch_of x) arch).0 parts.0 in
      let highest : arch_of y ≡ arch = (bytes_eq-Decides (arch_of y) arch).0 parts.1 in
      all_of_this r rs s (ap arch_of end ∙ highest ∙ sym lowest ∙ sym (ap arch_of head)) (ap (λ (b : BuildIn). bytes_eq (arch_of b) arch) head ∙ parts.0)

  module _ (test : BuildIn → Bool) where
    abbrev there : List BuildIn → List BuildIn
    there rows = filter (λ b. bytes_eq (arch_of b) arch) rows

    none_passes : (rows : List BuildIn) → list_all is_elsewhere rows ≡ true → there (filter test rows) ≡ []
    none_passes [] h = refl
    none_passes (b ∷ rows) h =
        let parts = both_are (is_elsewhere b) (list_all is_elsewhere rows) h in
        let passing : Bool → List BuildIn = λ t. there (cond t (b ∷ filter test rows) (filter test rows)) in
        let more = none_passes rows parts.1 in
        elim (cases_Bool (test b)) [
          | inl t ↦ ap passing t ∙ ap (λ o. cond o (b ∷ there (filter test rows)) (there (filter test rows))) (not_one (bytes_eq (arch_of b) arch) parts.0) ∙ more
          | inr f ↦ ap passing f ∙ more
        ]

    all_pass : (rows : List BuildIn) → list_all is_there rows ≡ true → there (filter test rows) ≡ filter test rows
    all_pass [] h = refl
    all_pass (b ∷ rows) h =
        let parts = both_are (is_there b) (list_all is_there rows) h in
        let kept : Bool → List BuildIn = λ t. cond t (b ∷ filter test rows) (filter test rows) in
        let more = all_pass rows parts.1 in
        elim (cases_Bool (test b)) [
          | inl t ↦ ap (λ o. there (kept o)) t ∙ ap (λ o. cond o (b ∷ there (filter test rows)) (there (filter test rows))) parts.0 ∙ ap (λ bs. b ∷ bs) more ∙ sym (ap kept t)
          | inr f ↦ ap (λ o. there (kept o)) f ∙ more ∙ sym (ap kept f)
        ]

-- of builds that are all of the architecture each that is let through adds its row
pub all_come : (passing : SourceFilter) (builds : List BuildIn) (place : ℕ) (arch : Text) → list_all (λ (b : BuildIn). bytes_eq b.binary.architecture arch) builds ≡ true
    → map (row_at place) (passing_builds passing builds) ≡ built_on (passing_builds passing builds) (place, arch)
all_come passing builds place arch h =
    sym (ap (map (row_at place)) (all_pass arch (λ (b : BuildIn). filter_passes passing b.binary.source) builds h))

-- builds elsewhere add no row
pub none_there : (rows : List RowIn) (passing : SourceFilter) (builds : List BuildIn) (place : ℕ) (arch : Text) → list_all (λ (b : BuildIn). not (bytes_eq b.binary.architecture arch)) builds ≡ true
    → rows ≡ rows ++ built_on (passing_builds passing builds) (place, arch)
none_there rows passing builds place arch h =
    sym (ap (λ bs. rows ++ map (row_at place) bs) (none_passes arch (λ (b : BuildIn). filter_passes passing b.binary.source) builds h) ∙ append-nil rows)
