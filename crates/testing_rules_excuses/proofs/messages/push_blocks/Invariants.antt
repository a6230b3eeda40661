use Rattle.std.proofs.Common.{◌≡◌, ◌++◌, take, map}
use Rattle.testing_rules_excuses.specs.Origins.{from_blocks}
use Rattle.testing_rules_excuses.specs.steps.Origins.{origin_of}
use Rattle.testing_rules_excuses.proofs.messages.push_blocks.Given as goal

-- those so far
abbrev pub invariant-loop-hint : goal.invariant-loop-hint
invariant-loop-hint l = map origin_of l.origins.items ≡ map origin_of l.fn.origins.items ++ from_blocks l.upload (take l.hint-index l.hints)
