use Rattle.std.proofs.Common.{◌≡◌, ◌<◌, ◌≤◌, ◌-◌, ◌==◌, ℕ, length, slice_index, false}
use Rattle.deb_control.proofs.text.index_from.Given as goal

-- no byte so far is the one that is sought
abbrev pub invariant-bytes : goal.invariant-bytes
invariant-bytes l = (l.at ≤ length l.bytes) × ((k : ℕ) → l.fn.from ≤ k → k < l.at → (slice_index l.bytes k == l.byte) ≡ false)

abbrev pub decreases-bytes : goal.decreases-bytes
decreases-bytes l = length l.bytes - l.at
