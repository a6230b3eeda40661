-- The printed lines of unstable are those of its items.
use Rattle.std.specs.Prelude.{ℕ, ◌+◌, ◌<◌, ◌≤◌, ◌==◌, false, List, [], ◌∷◌, ◌++◌, Contains, codes, flat_map, length, slice_index_or}
use Rattle.std.specs.List.{enumerate_from}
use Rattle.std.proofs.Common.{◌≡◌, refl, sym, ap, ◌∙◌, subst, arith, inl, inr}
use Rattle.std.proofs.lemmas.Bool.Decides.{nat_tests}
use Rattle.std.proofs.lemmas.List.{get_or_default}
use Rattle.std.proofs.lemmas.List.Elements.{Contains-append_cases}
use Rattle.std.proofs.lemmas.List.FromFn.{get_or-enumerate_from, length-enumerate_from}
use Rattle.testing_rules_items.specs.Archs.{IsArchs}
use Rattle.testing_rules_items.specs.Words.{Text, arch_name}
use Rattle.testing_rules_items.proofs.Members.{none_among, head_of, tail_of}
use Rattle.testing_rules_model.specs.declared.suite.RowIn.{RowIn}
use Rattle.testing_rules_model.specs.Covered.{Covered}
use Rattle.testing_rules_model.specs.Unstable.{places, unstable_rows}
use Rattle.testing_rules_model.proofs.Sets.{first_or_rest}
use Rattle.testing_rules_reports.specs.Reports.{line, row_line}
use Rattle.office_core_laws.specs.Printed.{package_line}
use Rattle.office_core_laws.proofs.UnstableItems.{row_of}

each_same : {A : Type 0} (f g : A → Text) (xs : List A) → ((x : A) → Contains xs x → f x ≡ g x) → flat_map f xs ≡ flat_map g xs
each_same f g [] h = refl
each_same f g (x ∷ xs) h =
    ap (λ t. t ++ flat_map f xs) (h x (head_of x xs)) ∙ ap (λ t. g x ++ t) (each_same f g xs (λ y c. h y (tail_of x xs y c)))

-- the place of an architecture has its name
listed_name : (archs : List Text) (p : ℕ × Text) → length archs ≤ 16 → Contains (enumerate_from 0 archs) p → arch_name archs p.0 ≡ p.1
listed_name archs p few c =
    let k = c.0 in
    let low : k < length archs = omega (arith, c.1, length-enumerate_from 0 archs) in
    let at : (k, slice_index_or archs k p.1) ≡ p = ap (λ n. (n, slice_index_or archs k p.1)) (let e : k ≡ 0 + k = omega arith in e) ∙ sym (get_or-enumerate_from 0 archs k p low) ∙ c.2 in
    let other : (k == 16) ≡ false = grind (arith, nat_tests) in
    subst (λ (q : ℕ × Text). arch_name archs q.0 ≡ q.1) at (rw other (get_or_default archs k [] p.1 low))

place_name : (archs : List Text) (p : ℕ × Text) → length archs ≤ 16 → Contains (places archs) p → arch_name archs p.0 ≡ p.1
place_name archs p few c = elim (Contains-append_cases (enumerate_from 0 archs) ((16, codes "all") ∷ []) p c) [
  | inl listed ↦ listed_name archs p few listed
  | inr last ↦ elim (first_or_rest (16, codes "all") [] p last) [
    | inl own ↦ subst (λ (q : ℕ × Text). arch_name archs q.0 ≡ q.1) own refl
    | inr never ↦ none_among p never
  ]
]

-- a row of unstable is printed with its package's architecture
row_printed : (archs : List Text) (s : Covered) (r : RowIn) → IsArchs archs → Contains (unstable_rows archs s) r → row_line archs r ≡ package_line r
row_printed archs s r are c =
    let w = row_of archs s r c in
    let named : arch_name archs w.place.0 ≡ w.build.binary.architecture = place_name archs w.place are.few w.known ∙ sym w.named in
    subst (λ (q : RowIn). row_line archs q ≡ package_line q) w.is
    (ap (λ a. line (codes "binary" ∷ a ∷ w.build.binary.name ∷ w.build.binary.version ∷ w.build.binary.source ∷ [])) named)

pub rows_printed : (archs : List Text) (s : Covered) → IsArchs archs → flat_map (row_line archs) (unstable_rows archs s) ≡ flat_map package_line (unstable_rows archs s)
rows_printed archs s are = each_same (row_line archs) package_line (unstable_rows archs s) (λ r c. row_printed archs s r are c)
