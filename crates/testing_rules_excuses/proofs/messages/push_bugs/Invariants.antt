use Rattle.std.proofs.Common.{◌≡◌, ◌++◌, take, map}
use Rattle.testing_rules_model.specs.Boxed.{unboxed}
use Rattle.testing_rules_excuses.specs.Origins.{from_bugs}
use Rattle.testing_rules_excuses.specs.steps.Origins.{origin_of}
use Rattle.testing_rules_excuses.proofs.messages.push_bugs.Given as goal

-- those so far
abbrev pub invariant-loop-boxed : goal.invariant-loop-boxed
invariant-loop-boxed l = map origin_of l.origins.items ≡ map origin_of l.fn.origins.items ++ from_bugs l.number (unboxed (take l.boxed-index l.bugs))
