use Rattle.std.proofs.Common.{◌≡◌, ◌<◌, ℕ, slice_index, true}
use Rattle.deb_control.specs.Paragraphs.{is_name_char}
use Rattle.deb_control.proofs.paragraphs.name_len.Given as goal

-- each character so far may stand in a name
abbrev pub invariant-loop-i : goal.invariant-loop-i
invariant-loop-i l = (k : ℕ) → k < l.i → is_name_char (slice_index l.bytes k) ≡ true
