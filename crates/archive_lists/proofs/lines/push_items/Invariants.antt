use Rattle.std.proofs.Common.{◌≡◌, ◌++◌, string_bytes, take}
use Rattle.archive_lists.specs.List.{lines_with}
use Rattle.archive_lists.proofs.lines.push_items.Given as goal

-- the text so far
abbrev pub invariant-loop-item : goal.invariant-loop-item
invariant-loop-item l = string_bytes l.text ≡ string_bytes l.fn.text ++ lines_with l.word (take l.item-index l.items)
