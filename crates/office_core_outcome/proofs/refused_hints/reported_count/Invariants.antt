use Rattle.std.proofs.Common.{◌≡◌, ◌≤◌, take}
use Rattle.std.specs.List.{count_by}
use Rattle.office_core_outcome.specs.WhyRefused.{is_reported}
use Rattle.office_core_outcome.proofs.refused_hints.reported_count.Given as goal

-- those so far
abbrev pub invariant-decisions : goal.invariant-decisions
invariant-decisions l = (l.count ≤ l.decision-index) × (l.count ≡ count_by (is_reported l.behind) (take l.decision-index l.decisions))
