use Rattle.std.proofs.Common.{◌≡◌, drop}
use Rattle.std.specs.List.{list_any}
use Rattle.office_core_outcome.specs.Proposal.{is_moved}
use Rattle.office_core_outcome.proofs.hint_trials.is_any_moved.Given as goal

-- the rest decides
abbrev pub invariant-loop-decision : goal.invariant-loop-decision
invariant-loop-decision l = list_any (is_moved l.source) (drop l.decision-index l.decisions) ≡ list_any (is_moved l.source) l.decisions
