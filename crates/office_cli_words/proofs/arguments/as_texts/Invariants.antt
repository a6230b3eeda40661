use Rattle.std.proofs.Common.{◌≡◌, map, take}
use Rattle.std.specs.String.{string_bytes}
use Rattle.office_cli_words.proofs.arguments.as_texts.Given as goal

-- those so far
abbrev pub invariant-loop-arg : goal.invariant-loop-arg
invariant-loop-arg l = map (λ t. t.now) l.texts.items ≡ map string_bytes (take l.arg-index l.args)
