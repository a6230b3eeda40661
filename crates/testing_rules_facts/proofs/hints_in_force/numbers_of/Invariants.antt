use Rattle.std.proofs.Common.{◌≡◌, map, take}
use Rattle.testing_rules_facts.proofs.hints_in_force.numbers_of.Given as goal

-- those so far
abbrev pub invariant-loop-unhint : goal.invariant-loop-unhint
invariant-loop-unhint l = l.numbers.items ≡ map (λ c. c.cancels) (take l.unhint-index l.unhints)
