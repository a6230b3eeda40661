use Rattle.std.proofs.Common.{◌≡◌, ◌++◌, string_bytes, take}
use Rattle.std.specs.List.{flat_map}
use Rattle.testing_rules_excuses.specs.steps.Telling.{reason_told}
use Rattle.testing_rules_excuses.proofs.reason_lines.push_reasons.Given as goal

-- the text so far
abbrev pub invariant-loop-reason : goal.invariant-loop-reason
invariant-loop-reason l = string_bytes l.text ≡ string_bytes l.fn.text ++ flat_map (reason_told l.asked) (take l.reason-index l.reasons)
