use Rattle.std.proofs.Common.{◌≡◌, drop}
use Rattle.office_core_outcome.specs.Proposal.{are_done}
use Rattle.office_core_outcome.proofs.grouped.are_done.Given as goal

-- the rest decides
abbrev pub invariant-loop-hint : goal.invariant-loop-hint
invariant-loop-hint l = are_done l.last (drop l.hint-index l.hints) l.decisions ≡ are_done l.number l.hints l.decisions
