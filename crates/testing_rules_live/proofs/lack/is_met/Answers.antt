use Rattle.std.proofs.Common.{arith, ap, length}
use Rattle.testing_install.proofs.Places.{read_more}
use Rattle.testing_rules_live.proofs.Unmet.{IsMissed, none_stands}
use Rattle.testing_rules_live.proofs.lack.is_met.Goals as goal

pub loop-alternative-preserved : goal.loop-alternative-preserved
loop-alternative-preserved c =
    let s = c.args.suites.now in
    read_more (IsMissed c.args.arch s.rows s.stands c.args.clause.now) _ _ _ _ c.as_slice-alternative-items.ensures c.loop-alternative-test.true c.alternative-item.is c.loop-alternative.invariant
    (record { each = λ k r at b. c.is_met_under.ensures c.if-is_met_under.false k r at (rw c.as_str.ensures b) })

pub returns : goal.returns
returns c =
    let s = c.args.suites.now in
    let long = ap length c.as_slice-alternative-items.ensures in
    λ _. none_stands c.args.arch s.rows s.stands c.args.clause.now c.loop-alternative.alternative-index c.loop-alternative.invariant (omega arith)
