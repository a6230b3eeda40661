-- The orders of the keys of testing's entries.
use Rattle.std.proofs.Common.{◌≡◌, ℕ, false, ap, ◌∙◌}
use Rattle.std.specs.Cmp.{IsTotalOrder}
use Rattle.std.specs.declared.cmp.Ordering.{Ordering}
use Rattle.std.specs.declared.cmp.Ordering.TheVariants.{Less}
use Rattle.std.specs.Ordering.{eq_by_cmp, is_eq, nat_cmp}
use Rattle.std.specs.FinMap.{IsAntisymmetric, slice_cmp-IsAntisymmetric, nat_cmp-IsAntisymmetric}
use Rattle.std.proofs.lemmas.Cmp.{nat_cmp_total, on_total, then_total, eq_by_cmp_equiv}
use Rattle.std.proofs.lemmas.Map.Lookups.{exact_pairs}
use Rattle.testing_rules_items.specs.Words.{Text, byte_cmp}
use Rattle.testing_rules_model.specs.Moves.{row_cmp}
use Rattle.testing_rules_model.proofs.Orders.{text_order}

pub not_tied : {K : Type 0} {R : K → K → Ordering} → IsTotalOrder R → (a b : K) → R a b ≡ Less → eq_by_cmp R b a ≡ false
not_tied total a b less = (eq_by_cmp_equiv total).symm b a ∙ ap is_eq less

pub text_exact : IsAntisymmetric byte_cmp
text_exact = slice_cmp-IsAntisymmetric nat_cmp-IsAntisymmetric

pub row_order : IsTotalOrder row_cmp
row_order = then_total (on_total (λ (p : ℕ × Text). p.0) nat_cmp_total) (on_total (λ (p : ℕ × Text). p.1) text_order)

pub row_exact : IsAntisymmetric row_cmp
row_exact = exact_pairs nat_cmp byte_cmp nat_cmp-IsAntisymmetric text_exact
