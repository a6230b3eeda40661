-- Unstable's rows are in order: by architecture and then by name, each pair once.
use Rattle.std.proofs.Common.{◌≡◌, ◌&&◌, List, [], ◌∷◌, map, Option, Some, None, refl, sym, ap, ◌∙◌, subst}
use Rattle.std.specs.List.{AllByRecursion, cons_option, filter_map}
use Rattle.std.specs.List.Sorted.{IsStrictlySortedBy}
use Rattle.std.specs.declared.cmp.Ordering.TheVariants.{Less}
use Rattle.std.specs.Cmp.{IsTotalOrder, first_so, second_so}
use Rattle.std.specs.Str.{bytes_eq}
use Rattle.std.proofs.lemmas.Cmp.{on_total, then_total}
use Rattle.std.proofs.lemmas.Slice.Eq.{bytes_eq-Decides}
use Rattle.testing_rules_items.specs.Words.{Text, sorted_by}
use Rattle.testing_rules_model.specs.declared.facts.BuildIn.{BuildIn}
use Rattle.testing_rules_model.specs.Covered.{Covered, builds_in}
use Rattle.testing_rules_model.specs.FactOrder.{AreByPair}
use Rattle.testing_rules_model.specs.Unstable.{build_order, is_above_drops, is_build_of, pair_of, pair_order, unstable_builds, unstable_row}
use Rattle.testing_rules_model.proofs.Chosen.{least-passes}
use Rattle.testing_rules_model.proofs.Orders.{text_order}
use Rattle.testing_rules_model.proofs.Picks.{Rises, rises-sorted}

pairs : IsTotalOrder pair_order
pairs = then_total (on_total (λ (p : Text × Text). p.0) text_order) (on_total (λ (p : Text × Text). p.1) text_order)

module _ (f : Text × Text → Option BuildIn) (keyed : (p : Text × Text) (b : BuildIn) → f p ≡ Some b → pair_of b ≡ p) where
  above_at : (o : Option BuildIn) (j k : Text × Text) (ks : List (Text × Text)) → f k ≡ o → pair_order j k ≡ Less → AllByRecursion (λ q. pair_order j q ≡ Less) (map pair_of (filter_map f ks))
      → AllByRecursion (λ q. pair_order j q ≡ Less) (map pair_of (cons_option o (filter_map f ks)))
  above_at None j k ks e h more = more
  above_at (Some b) j k ks e h more = (ap (pair_order j) (keyed k b e) ∙ h, more)

  above : (j : Text × Text) (ks : List (Text × Text)) → AllByRecursion (λ q. pair_order j q ≡ Less) ks → AllByRecursion (λ q. pair_order j q ≡ Less) (map pair_of (filter_map f ks))
  above j [] h = tt
  above j (k ∷ ks) h = above_at (f k) j k ks refl h.0 (above j ks h.1)

  rises_at : (o : Option BuildIn) (k : Text × Text) (ks : List (Text × Text)) → f k ≡ o → AllByRecursion (λ q. pair_order k q ≡ Less) ks → AreByPair (filter_map f ks) → AreByPair (cons_option o (filter_map f ks))
  unfolding IsStrictlySortedBy
  rises_at None k ks e h more = more
  rises_at (Some b) k ks e h more = (subst (λ j. AllByRecursion (λ q. pair_order j q ≡ Less) (map pair_of (filter_map f ks))) (sym (keyed k b e)) (above k ks h), more)

  rises : (ks : List (Text × Text)) → Rises pairs ks → AreByPair (filter_map f ks)
  unfolding IsStrictlySortedBy
  rises [] h = tt
  rises (k ∷ ks) h = rises_at (f k) k ks refl h.0 (rises ks h.1)

pub builds_by_pair : (s : Covered) → AreByPair (unstable_builds s)
builds_by_pair s =
    rises (λ p. unstable_row s p.0 p.1)
    (λ p b e.
    let passes = least-passes build_order (λ (v : BuildIn). is_build_of p.0 p.1 v && is_above_drops s v) (builds_in s) b e in
    let own = first_so (is_build_of p.0 p.1 b) (is_above_drops s b) passes in
    let arch : b.binary.architecture ≡ p.0 = (bytes_eq-Decides b.binary.architecture p.0).0 (first_so (bytes_eq b.binary.architecture p.0) (bytes_eq b.binary.name p.1) own) in
    let name : b.binary.name ≡ p.1 = (bytes_eq-Decides b.binary.name p.1).0 (second_so (bytes_eq b.binary.architecture p.0) (bytes_eq b.binary.name p.1) own) in
    ap (λ (x : Text). (x, b.binary.name)) arch ∙ ap (λ (x : Text). (p.0, x)) name)
    (sorted_by (λ p. p) pair_order (map pair_of (builds_in s)))
    (rises-sorted pairs (map pair_of (builds_in s)))
