use Rattle.std.proofs.Common.{◌≡◌, ◌++◌, map, string_bytes, take}
use Rattle.std.specs.List.{flat_map}
use Rattle.testing_rules_excuses.specs.Lines.{origin_line}
use Rattle.testing_rules_excuses.specs.steps.Origins.{origin_of}
use Rattle.testing_rules_excuses.proofs.reason_lines.push_origins.Given as goal

-- the text so far
abbrev pub invariant-loop-origin : goal.invariant-loop-origin
invariant-loop-origin l =
    string_bytes l.text ≡ string_bytes l.fn.text ++ flat_map (origin_line l.senders l.archs) (map origin_of (take l.origin-index l.origins))
