use Rattle.std.proofs.Common.{sym, subst, IfOk, IfSome}
use Rattle.testing_rules_model.specs.Boxed.{unboxed}
use Rattle.testing_rules_live.specs.steps.Held.{IsChangeBy}
use Rattle.testing_rules_moves.proofs.breaks.broken_by_move.Goals as goal

pub returns-in-Pooled-clause-change : goal.returns-in-Pooled-clause-change
returns-in-Pooled-clause-change c =
    subst (λ l. IfOk c.broken_in_suites_by_move.result (λ told. IfSome told.1 (IsChangeBy l (unboxed c.args.unstable.sources.now) c.args.group.now))) (sym c.in-Pooled.is) c.broken_in_suites_by_move.ensures.change
