use Rattle.std.proofs.Common.{◌≡◌, ◌++◌, string_bytes, take}
use Rattle.std.specs.List.{flat_map}
use Rattle.testing_rules_model.specs.JudgedRows.{lent}
use Rattle.testing_rules_refusals.specs.Texts.{offer_line}
use Rattle.office_core_breaks.specs.steps.Grounds.{known_on}
use Rattle.office_core_breaks.proofs.offers.push_each_offer.Given as goal

-- the text so far
abbrev pub invariant-loop-row : goal.invariant-loop-row
invariant-loop-row l =
    string_bytes l.text
    ≡ string_bytes l.fn.text
    ++ flat_map (offer_line (known_on l.input)) (lent (take l.row-index l.rows))
