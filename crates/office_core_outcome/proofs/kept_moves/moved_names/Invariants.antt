use Rattle.std.proofs.Common.{◌≡◌, take}
use Rattle.std.specs.List.{flat_map}
use Rattle.testing_rules_reports.specs.steps.LentLines.{lent_lines}
use Rattle.office_core_outcome.specs.steps.Settled.{names_in}
use Rattle.office_core_outcome.proofs.kept_moves.moved_names.Given as goal

-- those so far
abbrev pub invariant-loop-decision : goal.invariant-loop-decision
invariant-loop-decision l = lent_lines l.names.items ≡ flat_map names_in (take l.decision-index l.decisions)
