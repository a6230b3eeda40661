use Rattle.office_core_check.specs.steps.Unread.{Asks}
use Rattle.office_core_check.proofs.unread.unread_mail.Given as goal

abbrev pub invariant-senders : goal.invariant-senders
invariant-senders g l = Asks g.K.Keeper l.fn.keeper l.keeper
