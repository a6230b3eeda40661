use Rattle.std.proofs.Common.{◌≡◌, ◌++◌, string_bytes, take}
use Rattle.std.specs.List.{flat_map}
use Rattle.testing_rules_refusals.specs.Lines.{other_text}
use Rattle.testing_rules_refusals.proofs.lines.push_others.Given as goal

-- the text so far
abbrev pub invariant-loop-alternative : goal.invariant-loop-alternative
invariant-loop-alternative l = string_bytes l.text ≡ string_bytes l.fn.text ++ flat_map other_text (take l.alternative-index l.alternatives)
