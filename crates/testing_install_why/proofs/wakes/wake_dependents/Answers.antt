use Rattle.std.proofs.Common.{◌≤◌, length, ap, arith}
use Rattle.testing_install_why.proofs.Woken.{names_all, names_begun, names_more}
use Rattle.testing_install_why.proofs.wakes.wake_dependents.Goals as goal

pub loop-provision-init : goal.loop-provision-init
loop-provision-init c = names_begun c.args.suite.now.rows c.args.binary.now _ _ _ _ _ c.in_ok-wake_named.ensures.grown c.as_str.ensures c.in_ok-wake_named.ensures.woken

pub loop-provision-preserved : goal.loop-provision-preserved
loop-provision-preserved c =
    names_more c.args.suite.now.rows c.args.binary.now _ _ _ _ _ _ _ _ _ _ c.loop-provision.invariant c.as_slice-provision-items.ensures c.loop-provision-test.true c.provision-item.is c.as_str-in-loop-provision.ensures c.in_ok-wake_named-2.ensures.grown c.in_ok-wake_named-2.ensures.woken

pub returns-clause-woken : goal.returns-clause-woken
returns-clause-woken c =
    let long = ap length c.as_slice-provision-items.ensures in
    let over : length c.args.binary.now.provides ≤ c.loop-provision.provision-index = omega arith in
    names_all c.args.suite.now.rows c.args.binary.now _ _ _ _ c.loop-provision.provision-index c.loop-provision.invariant over
