use Rattle.std.proofs.Common.{◌≡◌, ◌≤◌, take}
use Rattle.std.specs.List.{count_by}
use Rattle.office_core_outcome.specs.WhyRefused.{is_reported}
use Rattle.office_core_outcome.proofs.refused_hints.explained_end.Given as goal

-- what was counted so far, up to the third
abbrev pub invariant-decisions : goal.invariant-decisions
invariant-decisions l = (l.end ≡ l.decision-index) × (l.count ≡ count_by (is_reported l.behind) (take l.decision-index l.decisions)) × (l.count ≤ 3)
