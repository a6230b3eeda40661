use Rattle.std.proofs.Common.{◌≡◌, take}
use Rattle.testing_rules_refusals.specs.steps.LineNumbers.{numbers_named}
use Rattle.testing_rules_refusals.proofs.providers.numbers_named.Given as goal

-- those so far
abbrev pub invariant-loop-alternative : goal.invariant-loop-alternative
invariant-loop-alternative l = l.numbers.items ≡ numbers_named l.noted (take l.alternative-index l.clause)
