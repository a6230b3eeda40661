use Rattle.testing_rules_moves.proofs.Remembering.{cleared_more}
use Rattle.testing_rules_moves.proofs.refusals.wake_by.Goals as goal

pub loop-provision-preserved : goal.loop-provision-preserved
loop-provision-preserved c =
    cleared_more c.args.noted.now c.args.binary.now c.args.flags.now.items c.loop-provision.flags.items c.wake_at-in-loop-provision.new.flags.items c.loop-provision.provision-index
    c.provision-item.result c.as_str-in-loop-provision.result.now _ c.as_slice-provision-items.ensures c.loop-provision-test.true c.provision-item.is c.as_str-in-loop-provision.ensures
    c.wake_at-in-loop-provision.ensures c.loop-provision.invariant
