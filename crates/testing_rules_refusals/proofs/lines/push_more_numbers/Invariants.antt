use Rattle.std.proofs.Common.{◌≡◌, ◌++◌, string_bytes, take}
use Rattle.std.specs.List.{flat_map}
use Rattle.testing_rules_refusals.specs.Lines.{more_text}
use Rattle.testing_rules_refusals.proofs.lines.push_more_numbers.Given as goal

-- the text so far
abbrev pub invariant-loop-number : goal.invariant-loop-number
invariant-loop-number l = string_bytes l.text ≡ string_bytes l.fn.text ++ flat_map more_text (take l.number-index l.numbers)
