use Rattle.std.proofs.Common.{◌≡◌, ◌<◌, ℕ, length, slice_index}
use Rattle.office_mail.specs.Runs.{cover_of}
use Rattle.office_core_facts.proofs.covered.covers.Given as goal

abbrev pub invariant-senders : goal.invariant-senders
invariant-senders l = record {
  size : length l.taken.items ≡ l.sender;
  same : (s : ℕ) → s < l.sender → slice_index l.taken.items s ≡ cover_of l.orders s;
}
