use Rattle.std.proofs.Common.{◌≡◌, ◌++◌, string_bytes, take}
use Rattle.std.specs.List.{flat_map}
use Rattle.testing_rules_model.specs.JudgedRows.{lent}
use Rattle.testing_rules_refusals.specs.Texts.{known_of, line_within}
use Rattle.testing_rules_refusals.proofs.proof_text.push_each_offer.Given as goal

-- the text so far
abbrev pub invariant-loop-row : goal.invariant-loop-row
invariant-loop-row l =
    string_bytes l.text
    ≡ string_bytes l.fn.text
    ++ flat_map (line_within l.telling.testing.now (known_of l.telling)) (lent (take l.row-index l.rows))
