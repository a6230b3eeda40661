use Rattle.std.proofs.Common.{ℕ, List, refl}
use Rattle.std.specs.Borrow.{Bor}
use Rattle.office_mail.specs.declared.covers.Cover.{Cover}
use Rattle.office_mail_setup.proofs.Each.{seen_more}
use Rattle.office_mail.proofs.Views.{no_cover}
use Rattle.office_mail.proofs.covers.names_of.Goals as goal

pub covers-preserved : goal.covers-preserved
covers-preserved c =
    rw c.in_ok-push.ensures.items (seen_more (λ (n : Bor (List ℕ)). n.now) (λ (c : List ℕ × ℕ). c.0) (λ (c : Cover). (c.name.now, c.number)) c.covers.names.items c.args.covers.now c.covers.cover-index no_cover _ c.covers-test.true c.covers.invariant refl)
