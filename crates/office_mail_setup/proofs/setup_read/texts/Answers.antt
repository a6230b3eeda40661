use Rattle.std.proofs.Common.{ℕ, List}
use Rattle.std.specs.Borrow.{Bor}
use Rattle.office_mail_setup.proofs.Each.{kept_more, nowhere}
use Rattle.office_mail_setup.proofs.setup_read.texts.Goals as goal

pub names-preserved : goal.names-preserved
names-preserved c =
    rw c.in_ok-push.ensures.items (kept_more (λ (n : Bor (List ℕ)). n.now) c.names.texts.items c.args.names.now c.names.name-index nowhere _ c.names-test.true c.names.invariant c.in_ok-from_str.ensures)
