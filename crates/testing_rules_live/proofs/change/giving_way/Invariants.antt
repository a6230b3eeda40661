use Rattle.std.proofs.Common.{take}
use Rattle.testing_rules_suites.specs.steps.Changes.{gives_way_to, AreThose}
use Rattle.testing_rules_live.proofs.change.giving_way.Given as goal

-- those so far
abbrev pub invariant-loop-place : goal.invariant-loop-place
invariant-loop-place l = AreThose (gives_way_to l.pool l.stands) (take l.place-index l.coming) l.leaving.items
