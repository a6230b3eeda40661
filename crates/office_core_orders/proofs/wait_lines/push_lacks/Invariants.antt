use Rattle.std.proofs.Common.{◌≡◌, ◌++◌, string_bytes, take}
use Rattle.std.specs.List.{flat_map}
use Rattle.office_core_orders.specs.WaitingLines.{lack_line}
use Rattle.office_core_orders.proofs.wait_lines.push_lacks.Given as goal

-- the text so far
abbrev pub invariant-loop-lack : goal.invariant-loop-lack
invariant-loop-lack l = string_bytes l.text ≡ string_bytes l.fn.text ++ flat_map (lack_line l.setup l.run) (take l.lack-index l.lacks)
