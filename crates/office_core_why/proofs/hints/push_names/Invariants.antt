use Rattle.std.proofs.Common.{◌≡◌, ◌++◌, string_bytes, take}
use Rattle.std.specs.List.{flat_map}
use Rattle.office_core_why.specs.Hints.{name_line}
use Rattle.office_core_why.proofs.hints.push_names.Given as goal

-- the text so far
abbrev pub invariant-loop-name : goal.invariant-loop-name
invariant-loop-name l = string_bytes l.text ≡ string_bytes l.fn.text ++ flat_map (name_line l.front l.facts.sources) (take l.name-index l.names)
