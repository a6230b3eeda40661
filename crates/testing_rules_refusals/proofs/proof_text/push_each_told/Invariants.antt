use Rattle.std.proofs.Common.{◌≡◌, ◌++◌, string_bytes, take, map}
use Rattle.std.specs.List.{flat_map}
use Rattle.testing_rules_refusals.specs.Texts.{known_of, told_text}
use Rattle.testing_rules_refusals.specs.Told.{told_of}
use Rattle.testing_rules_refusals.proofs.proof_text.push_each_told.Given as goal

-- the text so far
abbrev pub invariant-loop-line : goal.invariant-loop-line
invariant-loop-line l =
    string_bytes l.text
    ≡ string_bytes l.fn.text
    ++ flat_map (told_text l.telling.testing.now (known_of l.telling)) (map told_of (take l.line-index l.told))
