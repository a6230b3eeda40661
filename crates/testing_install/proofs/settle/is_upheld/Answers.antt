use Rattle.std.proofs.Common.{◌≡◌, true}
use Rattle.std.specs.Option.{option_copied}
use Rattle.testing_install.proofs.Places.{read_all, read_more}
use Rattle.testing_install.specs.Closed.{IsMet, marked}
use Rattle.testing_install.specs.steps.Settling.{suspects}
use Rattle.testing_install.specs.Rows.{shared}
use Rattle.testing_install.proofs.settle.is_upheld.Goals as goal

pub returns-then-not-is_sure-clause-no : goal.returns-then-not-is_sure-clause-no
returns-then-not-is_sure-clause-no c = λ _ all.
    c.is_sure.ensures.no c.if-not-is_sure.true (read_all (IsMet (shared c.args.graph.now.rows.items) (marked c.args.marks.now)) _ _ _ _ c.as_slice-clause-items.ensures c.loop-clause-test.true c.clause-item.is all)

pub loop-clause-preserved : goal.loop-clause-preserved
loop-clause-preserved c =
    read_more (λ clause. suspects (option_copied c.args.lost) clause ≡ true → IsMet (shared c.args.graph.now.rows.items) (marked c.args.marks.now) clause) _ _ _ _ c.as_slice-clause-items.ensures c.loop-clause-test.true c.clause-item.is c.loop-clause.invariant (c.is_sure.ensures.yes c.if-not-is_sure.false)
