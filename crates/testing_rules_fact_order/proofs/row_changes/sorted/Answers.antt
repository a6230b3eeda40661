use Rattle.std.proofs.Common.{◌∙◌, cond, ap, subst}
use Rattle.std.specs.List.Sorted.{IsSorted}
use Rattle.std.proofs.lemmas.List.Sorted.{sum_by-IsPermutation}
use Rattle.testing_rules_model.proofs.FactKinds.{derived_order}
use Rattle.testing_rules_model.specs.FactRows.{is_row, times}
use Rattle.testing_rules_fact_order.proofs.row_changes.sorted.Goals as goal

pub returns-clause-sorted : goal.returns-clause-sorted
returns-clause-sorted c = subst (λ order. IsSorted order c.sort_unstable.new.self.items) derived_order c.sort_unstable.ensures.sorted

pub returns-clause-same : goal.returns-clause-same
returns-clause-same c r = sum_by-IsPermutation (λ x. cond (is_row r x) 1 0) _ _ c.sort_unstable.ensures.permutation ∙ ap (times r) c.in_ok-sorted.ensures.items
