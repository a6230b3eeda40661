use Rattle.std.proofs.Common.{arith, sym, subst, ◌≤◌, length}
use Rattle.testing_install.proofs.Marking.{grown_to, tracked_longer}
use Rattle.testing_install.specs.Tracked.{Tracked}
use Rattle.testing_install.proofs.marks.Marks.longer.Goals as goal

pub invariant_of-result : goal.invariant_of-result
invariant_of-result c =
    let t = c.self.invariant in
    let h : length c.self.inside.current.items ≤ c.args.rows = subst (λ (t : Tracked). length t.current ≤ c.args.rows) (sym c.self.view_is) c.requires in
    let current = grown_to c.self.inside.current.items _ c.args.rows _ c.in_ok-resize.ensures.items c.self.inside.current.ok.0 h in
    let kept = grown_to c.self.inside.kept.items _ c.args.rows _ c.in_ok-resize-2.ensures.items c.self.inside.kept.ok.0 (omega (arith, h, t.long)) in
    tracked_longer _ _ _ _ _ c.args.rows current kept t
