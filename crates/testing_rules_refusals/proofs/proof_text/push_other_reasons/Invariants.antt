use Rattle.std.proofs.Common.{◌≡◌, ◌++◌, string_bytes, take}
use Rattle.std.specs.List.{flat_map}
use Rattle.testing_rules_refusals.specs.Texts.{other_reason}
use Rattle.testing_rules_refusals.proofs.proof_text.push_other_reasons.Given as goal

-- the text so far
abbrev pub invariant-loop-reason : goal.invariant-loop-reason
invariant-loop-reason l = string_bytes l.text ≡ string_bytes l.fn.text ++ flat_map (other_reason l.archs) (take l.reason-index l.reasons)
