use Rattle.std.proofs.Common.{◌≡◌, take}
use Rattle.office_core_outcome.specs.Proposal.{freed_by}
use Rattle.office_core_outcome.proofs.hint_trials.freed_by.Given as goal

-- those so far
abbrev pub invariant-loop-source : goal.invariant-loop-source
invariant-loop-source l = l.freed.items ≡ freed_by l.decisions (take l.source-index l.sources)
