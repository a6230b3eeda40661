use Rattle.std.proofs.Common.{◌≡◌, ◌++◌, map, take}
use Rattle.testing_rules_model.specs.declared.update.Moved.{Moved}
use Rattle.testing_rules_reports.specs.steps.LentLines.{lent_lines}
use Rattle.office_core_outcome.proofs.kept_moves.push_names.Given as goal

-- those so far
abbrev pub invariant-loop-item : goal.invariant-loop-item
invariant-loop-item l = lent_lines l.names.items ≡ lent_lines l.fn.names.items ++ map (λ (m : Moved). m.name) (take l.item-index l.items)
