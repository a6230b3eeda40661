use Rattle.std.proofs.Common.{take}
use Rattle.testing_rules_model.specs.Boxed.{unboxed}
use Rattle.testing_rules_suites.specs.steps.Changes.{comes_at, AreThose}
use Rattle.testing_rules_model.specs.Moves.{group_sources}
use Rattle.testing_rules_live.proofs.change.coming_of.Given as goal

-- those so far
abbrev pub invariant-loop-name : goal.invariant-loop-name
invariant-loop-name l = AreThose (comes_at l.pool l.first) (group_sources (unboxed l.sources) (take l.name-index l.group)) l.coming.items
