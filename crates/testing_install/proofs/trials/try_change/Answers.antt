use Rattle.std.proofs.Common.{◌∙◌}
use Rattle.testing_install.proofs.Trying.{tried_after, lost_none}
use Rattle.testing_install.specs.Rows.{shared}
use Rattle.testing_install.proofs.trials.try_change.Goals as goal
use Rattle.testing_install.proofs.trials.try_change.Goals.{then-is_empty, else-is_empty}

pub returns-then-is_idle-clause-lost : goal.returns-then-is_idle-clause-lost
returns-then-is_idle-clause-lost c =
    lost_none (shared c.args.graph.now.rows.items) c.args.there.now.current c.args.exchange.leaving.now c.args.exchange.coming.now c.new.result.items (c.is_idle.ensures.leaving c.if-is_idle.true) (c.is_idle.ensures.coming c.if-is_idle.true) c.new.ensures.items

pub returns-clause-tried : goal.returns-clause-tried
returns-clause-tried c = elim c.if-is_empty.branch [
  | then-is_empty w ↦ rw w.tried-is (tried_after (shared c.args.graph.now.rows.items) c.args.there.now.current c.args.marks.now.current c.lost_by.new.marks.kept c.lost_by.new.marks.current c.args.exchange.leaving.now c.args.exchange.coming.now c.args.tried.now _ (c.in_ok-lost.ensures.marks_kept ∙ c.requires.marks) c.requires.right c.in_ok-lost.ensures.right c.requires.tried w.remember.ensures)
  | else-is_empty w ↦ rw w.tried-is c.requires.tried
]
