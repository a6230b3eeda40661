use Rattle.std.proofs.Common.{◌≡◌, ◌++◌, string_bytes, take}
use Rattle.std.specs.List.{flat_map}
use Rattle.testing_rules_model.specs.JudgedRows.{lent}
use Rattle.office_core_breaks.specs.steps.Grounds.{known_on}
use Rattle.office_core_breaks.specs.Texts.{row_text}
use Rattle.office_core_breaks.proofs.lines.push_each_broken.Given as goal

-- those so far
abbrev pub invariant-loop-row : goal.invariant-loop-row
invariant-loop-row l = string_bytes l.text ≡ string_bytes l.fn.text ++ flat_map (row_text (known_on l.input) (lent l.input.unstable.rows.now) l.arch) (lent (take l.row-index l.rows))
