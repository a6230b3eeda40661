use Rattle.std.proofs.Common.{sym, subst, ◌<◌, length}
use Rattle.testing_install.proofs.Marking.{tracked_set}
use Rattle.testing_install.specs.Tracked.{Tracked}
use Rattle.testing_install.proofs.marks.Marks.set.Goals as goal

pub invariant_of-self-2 : goal.invariant_of-self-2
invariant_of-self-2 c = rw c.in_ok-push.ensures.items (tracked_set _ _ _ _ _ c.self.invariant (subst (λ (t : Tracked). c.args.place < length t.current) (sym c.self.view_is) c.requires))
