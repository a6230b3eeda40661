use Rattle.std.proofs.Common.{subst}
use Rattle.testing_install.proofs.Trying.{rising_exact}
use Rattle.testing_install.specs.Tracked.{Tracked}
use Rattle.testing_install.specs.steps.Trials.{IsDifference}
use Rattle.testing_install.proofs.marks.Marks.rising.Goals as goal

pub returns : goal.returns
returns c = subst (λ (t : Tracked). IsDifference t.current t.kept c.in_ok-list.list.items) c.self.view_is (rising_exact c.self.inside.current.items c.self.inside.kept.items c.self.inside.touched.items _ _ _ _ c.self.invariant c.deref.ensures.value c.deref-2.ensures.value c.deref-3.ensures.value c.in_ok-list.ensures)
