use Rattle.std.proofs.Common.{◌≡◌, ◌≤◌, ◌+◌, length, take}
use Rattle.std.specs.List.{suffix_len}
use Rattle.office_http.specs.ShortTexts.{is_within_line}
use Rattle.office_http.proofs.short_texts.whole_len.Given as goal

-- the bytes from here on end no line
abbrev pub invariant-loop-len : goal.invariant-loop-len
invariant-loop-len l = (l.len ≤ length l.bytes) × (l.len + suffix_len is_within_line l.bytes ≡ length l.bytes + suffix_len is_within_line (take l.len l.bytes))

abbrev pub decreases-loop-len : goal.decreases-loop-len
decreases-loop-len l = l.len
