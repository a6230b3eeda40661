-- The laws of the order of versions: it is total, and the same version is an equivalence that the order respects.
-- A proof in a crate above cites these, and std's lemmas on `IsTotalOrder` (std/lemmas/Cmp.md) with `version_order`.
use Rattle.std.specs.Prelude.{◌≡◌, ℕ, suc, zero, ◌+◌, ◌≤◌, ◌<◌, ◌⊎◌, Bool, true, false, Option, Some, None, Result, Ok, Err, unwrap_or, List, [], ◌∷◌, length, ℤ, pos}
use Rattle.std.specs.Option.{option_map_or}
use Rattle.std.specs.declared.cmp.Ordering.{Ordering}
use Rattle.std.specs.declared.cmp.Ordering.TheVariants.{Less, Equal, Greater}
use Rattle.std.specs.Ordering.{ordering_then, ordering_reverse, is_gt, int_cmp}
use Rattle.std.proofs.lemmas.Bool.Decides.{nat_tests}
use borrow.Author.Tests.{ltb-false}
use Rattle.std.specs.Cmp.{IsTotalOrder}
use Rattle.std.specs.Cmp.Lexicographic.{slice_cmp}
use Rattle.std.proofs.Common.{refl, sym, ap, ◌∙◌, arith, inl, inr}
use Rattle.std.proofs.lemmas.Cmp.{nat_cmp_total, int_cmp_total, on_total, then_total, lists_total, tied_itself, tied_back, alike_right, upto}
use Rattle.deb_version.specs.Key.{key, key_cmp, part_cmp}
use Rattle.deb_version.specs.Text.{epoch_of, upstream_of, revision_of, version_fault, IsVersion}
use Rattle.deb_version.specs.steps.Split.{first_fault}
use Rattle.deb_version.specs.Order.{version_cmp, IsBelow, IsAbove, text_cmp}
use Rattle.deb_version.specs.steps.Order.{SameVersion}
use Rattle.deb_version.specs.declared.faults.CompareFault.{CompareFault}
use Rattle.deb_version.specs.declared.faults.CompareFault.TheVariants.{First, Second}
use Rattle.deb_version.specs.declared.faults.VersionFault.{VersionFault}
use Rattle.deb_version.specs.declared.faults.VersionFault.TheVariants.{NoMemory}

-- the first n numbers of a key, continued by zeros
abbrev continued : ℕ → List ℤ → List ℤ
continued zero xs = []
continued (suc n) [] = pos 0 ∷ continued n []
continued (suc n) (x ∷ xs) = x ∷ continued n xs

-- keys are compared as lists of the same length
key_cmp_continued : (n : ℕ) (xs ys : List ℤ) → length xs ≤ n → length ys ≤ n → key_cmp xs ys ≡ slice_cmp int_cmp (continued n xs) (continued n ys)
unfolding key_cmp
key_cmp_continued zero [] [] h k = refl
key_cmp_continued zero [] (y ∷ ys) h k = absurd (omega arith)
key_cmp_continued zero (x ∷ xs) ys h k = absurd (omega arith)
key_cmp_continued (suc n) [] [] h k = key_cmp_continued n [] [] (omega arith) (omega arith)
key_cmp_continued (suc n) [] (y ∷ ys) h k = ap (λ o. ordering_then (int_cmp (pos 0) y) o) (key_cmp_continued n [] ys (omega arith) (omega arith))
key_cmp_continued (suc n) (x ∷ xs) [] h k = ap (λ o. ordering_then (int_cmp x (pos 0)) o) (key_cmp_continued n xs [] (omega arith) (omega arith))
key_cmp_continued (suc n) (x ∷ xs) (y ∷ ys) h k = ap (λ o. ordering_then (int_cmp x y) o) (key_cmp_continued n xs ys (omega arith) (omega arith))

-- lists of the same length are totally ordered
lists_order : IsTotalOrder (slice_cmp int_cmp)
lists_order = lists_total int_cmp_total

ordering_cases : (o : Ordering) → (o ≡ Less) ⊎ ((o ≡ Equal) ⊎ (o ≡ Greater))
ordering_cases Less = inl refl
ordering_cases Equal = inr (inl refl)
ordering_cases Greater = inr (inr refl)

-- the order of keys is total
pub key_order : IsTotalOrder key_cmp
key_order = record {
  antisymm = λ x y.
      let n : ℕ = length x + length y in
      key_cmp_continued n x y (omega arith) (omega arith)
      ∙ lists_order.antisymm (continued n x) (continued n y)
      ∙ ap ordering_reverse (sym (key_cmp_continued n y x (omega arith) (omega arith)));
  trans = λ x y z h k.
      let n : ℕ = length x + length y + length z in
      key_cmp_continued n x z (omega arith) (omega arith)
      ∙ lists_order.trans (continued n x) (continued n y) (continued n z)
      (sym (key_cmp_continued n x y (omega arith) (omega arith)) ∙ h)
      (sym (key_cmp_continued n y z (omega arith) (omega arith)) ∙ k);
  congr = λ x y z h.
      let n : ℕ = length x + length y + length z in
      key_cmp_continued n x z (omega arith) (omega arith)
      ∙ lists_order.congr (continued n x) (continued n y) (continued n z)
      (sym (key_cmp_continued n x y (omega arith) (omega arith)) ∙ h)
      ∙ sym (key_cmp_continued n y z (omega arith) (omega arith));
}

-- the order of parts is total
pub part_order : IsTotalOrder part_cmp
part_order = on_total key key_order

-- the order of versions is total
pub version_order : IsTotalOrder version_cmp
unfolding version_cmp
version_order = then_total (on_total epoch_of nat_cmp_total) (then_total (on_total upstream_of part_order) (on_total revision_of part_order))

-- a version equals itself
pub same_refl : (a : List ℕ) → SameVersion a a
same_refl a = tied_itself version_order a

pub same_sym : (a b : List ℕ) → SameVersion a b → SameVersion b a
same_sym a b h = tied_back version_order a b h

pub same_trans : (a b c : List ℕ) → SameVersion a b → SameVersion b c → SameVersion a c
same_trans a b c h k = version_order.congr a b c h ∙ k

-- equal versions compare alike, on either side
pub same_left : (a b c : List ℕ) → SameVersion a b → version_cmp a c ≡ version_cmp b c
same_left a b c h = version_order.congr a b c h

pub same_right : (a b c : List ℕ) → SameVersion a b → version_cmp c a ≡ version_cmp c b
same_right a b c h = alike_right version_order a b c h

pub below_trans : (a b c : List ℕ) → IsBelow a b → IsBelow b c → IsBelow a c
below_trans a b c h k = version_order.trans a b c h k

-- above is the converse of below
pub below_from_above : (a b : List ℕ) → IsAbove a b → IsBelow b a
below_from_above a b h = version_order.antisymm b a ∙ ap ordering_reverse h

pub above_from_below : (a b : List ℕ) → IsBelow a b → IsAbove b a
above_from_below a b h = version_order.antisymm b a ∙ ap ordering_reverse h

pub above_trans : (a b c : List ℕ) → IsAbove a b → IsAbove b c → IsAbove a c
above_trans a b c h k = above_from_below c a (below_trans c b a (below_from_above b c k) (below_from_above a b h))

-- of two versions one is below the other, or they are the same
pub version_cases : (a b : List ℕ) → (IsBelow a b) ⊎ ((SameVersion a b) ⊎ (IsAbove a b))
version_cases a b = ordering_cases (version_cmp a b)

-- "not above" is transitive: the choice of the greatest version needs this
pub at_most_trans : (a b c : List ℕ) → is_gt (version_cmp a b) ≡ false → is_gt (version_cmp b c) ≡ false → is_gt (version_cmp a c) ≡ false
at_most_trans a b c h k = upto version_order a b c h k

never_memory : (a b c d e f : Bool) → first_fault a b c d e f ≡ Some NoMemory → ⊥
unfolding first_fault
never_memory true b c d e f h = cc
never_memory false true c d e f h = cc
never_memory false false true d e f h = cc
never_memory false false false true e f h = cc
never_memory false false false false true f h = cc
never_memory false false false false false true h = cc
never_memory false false false false false false h = cc

no_fault : (a b c d e f : Bool) → first_fault a b c d e f ≡ None → (a ≡ false) × (b ≡ false)
unfolding first_fault
no_fault true b c d e f h = cc
no_fault false true c d e f h = cc
no_fault false false c d e f h = (refl, refl)

refused_by : (o : Option VersionFault) (e : VersionFault) → e ≡ unwrap_or o NoMemory → (e ≡ NoMemory → ⊥) → o ≡ Some e
refused_by None e h other = absurd (other h)
refused_by (Some x) e h other = ap Some (sym h)

passed_by : (o : Option VersionFault) (e : VersionFault) → (o ≡ Some NoMemory → ⊥) → e ≡ unwrap_or o NoMemory → e ≡ NoMemory → o ≡ None
passed_by None e never h k = refl
passed_by (Some x) e never h k = absurd (never (ap Some (sym h ∙ k)))

-- running out of memory is no fault of a text
pub not_out_of_memory : (text : List ℕ) → version_fault text ≡ Some NoMemory → ⊥
unfolding version_fault first_fault
not_out_of_memory text h = never_memory _ _ _ _ _ _ h

-- a refusal other than out of memory names the text's first fault, so the text isn't a version
pub refused_for : (text : List ℕ) (e : VersionFault) → e ≡ unwrap_or (version_fault text) NoMemory → (e ≡ NoMemory → ⊥) → version_fault text ≡ Some e
refused_for text e h other = refused_by (version_fault text) e h other

-- only a version is refused for running out of memory
pub refused_version : (text : List ℕ) (e : VersionFault) → e ≡ unwrap_or (version_fault text) NoMemory → e ≡ NoMemory → IsVersion text
refused_version text e h k = passed_by (version_fault text) e (not_out_of_memory text) h k

-- a version has 1 to 256 bytes
pub version_length : (text : List ℕ) → IsVersion text → (0 < length text) × (length text ≤ 256)
unfolding version_fault first_fault
version_length text h =
    let passed = no_fault _ _ _ _ _ _ h in
    let some : 0 < length text = grind (arith, nat_tests) in
    (some, ltb-false 256 (length text) passed.1)

-- an order, unless the first text has a fault, or else the second
abbrev unless_refused : Option VersionFault → Option VersionFault → Ordering → Result Ordering CompareFault
unless_refused first second order =
    option_map_or (λ fault. Err (First fault)) first (option_map_or (λ fault. Err (Second fault)) second (Ok order))

not_refused : (a b : Option VersionFault) (o order : Ordering) → unless_refused a b o ≡ Ok order → (a ≡ None) × (b ≡ None) × (order ≡ o)
not_refused (Some x) b o order h = cc
not_refused None (Some y) o order h = cc
not_refused None None o order h = (refl, refl, cc)

first_refused : (a b : Option VersionFault) (o : Ordering) (e : VersionFault) → unless_refused a b o ≡ Err (First e) → a ≡ Some e
first_refused (Some x) b o e h = cc
first_refused None (Some y) o e h = cc
first_refused None None o e h = cc

second_refused : (a b : Option VersionFault) (o : Ordering) (e : VersionFault) → unless_refused a b o ≡ Err (Second e) → (a ≡ None) × (b ≡ Some e)
second_refused (Some x) b o e h = cc
second_refused None (Some y) o e h = (refl, cc)
second_refused None None o e h = cc

-- texts that were compared are versions, and this is their order
pub compared_versions : (a b : List ℕ) (order : Ordering) → text_cmp a b ≡ Ok order → IsVersion a × IsVersion b × (order ≡ version_cmp a b)
compared_versions a b order h = not_refused (version_fault a) (version_fault b) (version_cmp a b) order h

-- the first text was refused for its first fault
pub first_text_refused : (a b : List ℕ) (e : VersionFault) → text_cmp a b ≡ Err (First e) → version_fault a ≡ Some e
first_text_refused a b e h = first_refused (version_fault a) (version_fault b) (version_cmp a b) e h

-- the second text was refused for its first fault, and the first is a version
pub second_text_refused : (a b : List ℕ) (e : VersionFault) → text_cmp a b ≡ Err (Second e) → IsVersion a × (version_fault b ≡ Some e)
second_text_refused a b e h = second_refused (version_fault a) (version_fault b) (version_cmp a b) e h
