use Rattle.std.proofs.Common.{true, false, sym, ◌∙◌, arith}
use Rattle.office_mail_setup.proofs.SetupFacts.{counted_more}
use Rattle.office_mail_setup.proofs.setup_read.count_of.Goals as goal
use Rattle.office_mail_setup.proofs.setup_read.count_of.Goals.{then-same_role, else-same_role}

pub senders-preserved : goal.senders-preserved
senders-preserved c =
    elim c.if-same_role.branch [
      | then-same_role w ↦ omega (arith, w.count-is, c.senders.invariant, counted_more c.args.role c.args.senders.now c.senders.sender-index c.sender-item.result true c.senders-test.true c.sender-item.is (sym c.same_role.ensures ∙ w.if-same_role.true))
      | else-same_role w ↦ omega (arith, w.count-is, c.senders.invariant, counted_more c.args.role c.args.senders.now c.senders.sender-index c.sender-item.result false c.senders-test.true c.sender-item.is (sym c.same_role.ensures ∙ w.if-same_role.false))
    ]
