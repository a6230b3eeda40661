use Rattle.std.proofs.Common.{◌≡◌, drop}
use Rattle.std.specs.List.{list_any}
use Rattle.office_core_outcome.specs.Proposal.{is_done}
use Rattle.office_core_outcome.proofs.grouped.is_any_done.Given as goal

-- the rest decides
abbrev pub invariant-loop-decision : goal.invariant-loop-decision
invariant-loop-decision l = list_any (is_done l.number l.hint) (drop l.decision-index l.decisions) ≡ list_any (is_done l.number l.hint) l.decisions
