use Rattle.std.proofs.Common.{arith, ap, sym, subst, ◌∙◌, ◌<◌, length}
use Rattle.std.specs.List.{All}
use Rattle.testing_install.proofs.Needing.{to_first, to_next, to_all}
use Rattle.testing_install.proofs.Reviving.{revived_both}
use Rattle.testing_install.specs.Closed.{marked}
use Rattle.testing_install.specs.steps.Settling.{IsRevived}
use Rattle.testing_install.proofs.change.revive_dependents.Goals as goal

pub revive_among-requires-clause-places : goal.revive_among-requires-clause-places
revive_among-requires-clause-places c = subst (All (λ k. k < length c.args.there.now)) (sym c.places-named.ensures) (c.requires.dependents c.as_str.result.now)

pub revive_among-requires-in-loop-provision-clause-places : goal.revive_among-requires-in-loop-provision-clause-places
revive_among-requires-in-loop-provision-clause-places c = subst (All (λ k. k < length c.args.there.now)) (sym c.places-given.ensures) (c.requires.dependents c.as_str-in-loop-provision.result.now)

pub loop-provision-init : goal.loop-provision-init
loop-provision-init c =
    let one = c.in_ok-revive_among.ensures in
    let begun = to_first c.args.dependents.now c.args.row.now _ _ c.places-named.ensures c.as_str.ensures in
    record {
      revived = subst (λ ks. IsRevived (marked c.args.there.now) c.args.marks.now.current c.revive_among.new.marks.current c.args.fresh.now.items c.revive_among.new.fresh.items ks (length ks)) begun one.revived;
      long = one.long;
      kept = one.kept;
      measure = one.measure;
    }

pub loop-provision-preserved : goal.loop-provision-preserved
loop-provision-preserved c =
    let one = c.in_ok-revive_among-2.ensures in
    let before = c.loop-provision.invariant in
    let next = to_next c.args.dependents.now c.args.row.now _ _ _ _ _ c.as_slice-provision-items.ensures c.loop-provision-test.true c.provision-item.is c.as_str-in-loop-provision.ensures c.places-given.ensures in
    record {
      revived = subst (λ ks. IsRevived (marked c.args.there.now) c.args.marks.now.current c.revive_among-in-loop-provision.new.marks.current c.args.fresh.now.items c.revive_among-in-loop-provision.new.fresh.items ks (length ks)) next (revived_both (marked c.args.there.now) _ _ _ _ _ _ _ _ before.revived one.revived);
      long = one.long;
      kept = one.kept ∙ before.kept;
      measure = omega (arith, one.measure, before.measure);
    }

pub returns-clause-revived : goal.returns-clause-revived
returns-clause-revived c =
    let long = ap length c.as_slice-provision-items.ensures in
    let all = to_all c.args.dependents.now c.args.row.now c.loop-provision.provision-index (omega arith) in
    subst (λ ks. IsRevived (marked c.args.there.now) c.args.marks.now.current c.loop-provision.marks.current c.args.fresh.now.items c.loop-provision.fresh.items ks (length ks)) all c.loop-provision.invariant.revived
