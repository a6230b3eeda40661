use Rattle.std.proofs.Common.{take}
use Rattle.testing_rules_suites.specs.steps.Changes.{stands_of, AreThose}
use Rattle.testing_rules_live.proofs.change.standing_of_group.Given as goal

-- those so far
abbrev pub invariant-loop-name : goal.invariant-loop-name
invariant-loop-name l = AreThose (stands_of l.pool l.stands) (take l.name-index l.group) l.leaving.items
