use Rattle.std.proofs.Common.{◌≡◌, ◌≤◌, take}
use Rattle.std.specs.List.{count_by}
use Rattle.office_http.specs.ShortTexts.{ends_line}
use Rattle.office_http.proofs.short_texts.line_count.Given as goal

-- the lines so far
abbrev pub invariant-loop-byte : goal.invariant-loop-byte
invariant-loop-byte l = (l.count ≤ l.byte-index) × (l.count ≡ count_by ends_line (take l.byte-index l.bytes))
