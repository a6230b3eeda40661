use Rattle.office_mail.specs.Kept.{Kept}
use Rattle.office_core_orders.specs.Ready.{HasEach}
use Rattle.office_core.specs.steps.Counting.{AreKept}
use Rattle.office_core.proofs.counts.count_each.Given as goal

-- the counts go no further than what is kept
abbrev pub invariant-loop-reply : goal.invariant-loop-reply
invariant-loop-reply l = (kept : Kept) → AreKept kept l.replies → HasEach kept l.fn.counts.items → HasEach kept l.counts.items
