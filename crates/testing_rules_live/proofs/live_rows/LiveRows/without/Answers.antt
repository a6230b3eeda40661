use Rattle.std.proofs.Common.{sym, ap, subst, ◌∙◌, Bool, not}
use Rattle.std.specs.Str.{bytes_eq}
use Rattle.testing_rules_model.specs.declared.suite.RowIn.{RowIn}
use Rattle.testing_rules_suites.specs.steps.AfterMoves.{rows_without}
use Rattle.testing_rules_live.specs.steps.Held.{held, AreLive}
use Rattle.testing_rules_model.specs.InOrder.{AreByKey}
use Rattle.testing_rules_model.proofs.Ordered.{by_key-kept}
use Rattle.testing_rules_suites.proofs.Showing.{present_rows-by_key}
use Rattle.testing_rules_live.proofs.live_rows.LiveRows.without.Goals as goal

pub returns-in_ok-suites-in-Pooled-clause-by_key : goal.returns-in_ok-suites-in-Pooled-clause-by_key
returns-in_ok-suites-in-Pooled-clause-by_key c = present_rows-by_key c.in_ok-suites-in-Pooled.suites

pub returns-in_ok-suites-in-Pooled-clause-live : goal.returns-in_ok-suites-in-Pooled-clause-live
returns-in_ok-suites-in-Pooled-clause-live c = λ archs unstable live.
    c.in_ok-suites-in-Pooled.ensures.live archs unstable (subst (λ l. AreLive l archs unstable) c.in-Pooled.is live)

pub returns-in_ok-left-in-Listed-clause-by_key : goal.returns-in_ok-left-in-Listed-clause-by_key
returns-in_ok-left-in-Listed-clause-by_key c =
    let name = c.args.name.now in
    let keep : RowIn → Bool = λ r. not (bytes_eq r.binary.source name) in
    let rows = c.in-Listed.rows.items in
    let left = c.in_ok-left-in-Listed.ensures ∙ ap (rows_without name) c.deref.ensures.value in
    subst AreByKey (sym left) (by_key-kept keep rows (subst (λ l. AreByKey (held l)) c.in-Listed.is c.requires))
