use Rattle.std.proofs.Common.{◌∙◌, sym, ap, subst}
use Rattle.std.specs.List.Sorted.{IsSorted}
use Rattle.std.proofs.lemmas.List.Sorted.{list_any-IsPermutation}
use Rattle.testing_rules_model.proofs.FactKinds.{derived_order}
use Rattle.testing_rules_model.specs.FactRows.{is_row}
use Rattle.office_store_keeper.specs.steps.FactSet.{is_among}
use Rattle.office_store_keeper.proofs.fact_rows.sorted.Goals as goal

pub returns-clause-order : goal.returns-clause-order
returns-clause-order c = subst (λ order. IsSorted order c.sort_unstable.new.self.items) derived_order c.sort_unstable.ensures.sorted

pub returns-clause-same : goal.returns-clause-same
returns-clause-same c r = sym (list_any-IsPermutation (is_row r) _ _ c.sort_unstable.ensures.permutation) ∙ ap (is_among r) c.in_ok-sorted.ensures.items
