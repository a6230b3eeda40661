use Rattle.std.proofs.Common.{IfSome, subst}
use Rattle.testing_rules_model.specs.Boxed.{unboxed}
use Rattle.testing_rules_live.specs.steps.Held.{IsChangeBy}
use Rattle.testing_rules_live.proofs.live_rows.LiveRows.moved.Goals as goal

pub moved_by-requires-clause-change : goal.moved_by-requires-clause-change
moved_by-requires-clause-change c = subst (λ o. IfSome o (IsChangeBy c.args.self (unboxed c.args.unstable.sources.now) c.args.group.now)) c.in-Some.is c.requires.change
