use Rattle.std.proofs.Common.{◌≡◌, ◌++◌, string_bytes, take}
use Rattle.testing_rules_model.specs.JudgedRows.{lent}
use Rattle.office_core_why.specs.Later.{later_lines}
use Rattle.office_core_why.proofs.later.push_later.Given as goal

-- the text so far
abbrev pub invariant-loop-row : goal.invariant-loop-row
invariant-loop-row l = string_bytes l.text ≡ string_bytes l.fn.text ++ later_lines l.input.senders.now l.input.archs.now l.testing (lent (take l.row-index l.rows)) l.upload
