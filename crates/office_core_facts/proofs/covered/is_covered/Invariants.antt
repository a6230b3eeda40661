use Rattle.std.proofs.Common.{ℕ, ◌<◌, ◌≤◌, slice_index}
use Rattle.office_mail.specs.Runs.{cover_of}
use Rattle.office_core_facts.proofs.covered.is_covered.Given as goal

abbrev pub invariant-senders : goal.invariant-senders
invariant-senders l = (s : ℕ) → s < l.sender → slice_index l.taken s ≤ cover_of l.orders s
