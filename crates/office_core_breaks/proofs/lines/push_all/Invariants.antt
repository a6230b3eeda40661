use Rattle.std.proofs.Common.{◌≡◌, ◌++◌, string_bytes}
use Rattle.std.specs.List.{flat_map, range_with_len}
use Rattle.testing_rules_model.specs.JudgedRows.{lent}
use Rattle.office_core_breaks.specs.steps.Grounds.{known_on}
use Rattle.office_core_breaks.specs.Texts.{broken_text}
use Rattle.office_core_breaks.proofs.lines.push_all.Given as goal

-- those so far
abbrev pub invariant-loop-arch : goal.invariant-loop-arch
invariant-loop-arch l =
    string_bytes l.text ≡ string_bytes l.fn.text ++ flat_map (broken_text (known_on l.input) (lent l.input.unstable.rows.now) (lent l.old) (lent l.new)) (range_with_len 0 l.arch)
