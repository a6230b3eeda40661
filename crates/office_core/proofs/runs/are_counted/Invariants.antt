use Rattle.std.proofs.Common.{ℕ, ◌<◌, ◌≤◌, slice_index}
use Rattle.office_core.proofs.runs.are_counted.Given as goal

abbrev pub invariant-senders : goal.invariant-senders
invariant-senders l = (s : ℕ) → s < l.sender → slice_index l.numbers s ≤ slice_index l.counts s
