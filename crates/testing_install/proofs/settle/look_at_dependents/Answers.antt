use Rattle.std.proofs.Common.{arith, ap, subst, ◌∙◌, ◌+◌, length, Some}
use Rattle.testing_install.proofs.Finding.{within_places}
use Rattle.testing_install.proofs.Needing.{places_from, from_first, from_next, from_none}
use Rattle.testing_install.proofs.Sharing.{length-shared}
use Rattle.testing_install.specs.Rows.{shared}
use Rattle.testing_install.specs.steps.Settling.{IsSettling}
use Rattle.testing_install.proofs.settle.look_at_dependents.Goals as goal

pub check_clauses-requires-clause-places : goal.check_clauses-requires-clause-places
check_clauses-requires-clause-places c = within_places _ _ _ _ c.places-named.ensures (length-shared c.args.graph.now.rows.items) (c.requires.graph.needed.within c.as_str.result.now)

pub check_clauses-requires-in-loop-provision-clause-places : goal.check_clauses-requires-in-loop-provision-clause-places
check_clauses-requires-in-loop-provision-clause-places c = within_places _ _ _ _ c.places-given.ensures (length-shared c.args.graph.now.rows.items) (c.requires.graph.needed.within c.as_str-in-loop-provision.result.now)

pub loop-provision-init : goal.loop-provision-init
loop-provision-init c =
    let rows = shared c.args.graph.now.rows.items in
    let dependents = c.args.graph.now.dependents in
    let lost = c.args.lost.now in
    let one = c.in_ok-check_clauses.ensures in
    let begun = from_first dependents lost _ _ c.places-named.ensures c.as_str.ensures in
    record {
      sized = one.sized;
      kept = one.kept;
      measure = one.measure;
      step = λ there first s. one.step there first (places_from dependents lost 0) (subst (λ todo. IsSettling rows there first c.args.marks.now.current c.args.falls.now.waiting.items c.args.falls.now.fallen.items todo (Some lost)) begun s);
    }

pub loop-provision-preserved : goal.loop-provision-preserved
loop-provision-preserved c =
    let rows = shared c.args.graph.now.rows.items in
    let dependents = c.args.graph.now.dependents in
    let lost = c.args.lost.now in
    let i = c.loop-provision.provision-index in
    let one = c.in_ok-check_clauses-2.ensures in
    let before = c.loop-provision.invariant in
    let next = from_next dependents lost i _ _ _ _ c.as_slice-provision-items.ensures c.loop-provision-test.true c.provision-item.is c.as_str-in-loop-provision.ensures c.places-given.ensures in
    record {
      sized = one.sized;
      kept = one.kept ∙ before.kept;
      measure = one.measure ∙ before.measure;
      step = λ there first s. one.step there first (places_from dependents lost (i + 1)) (subst (λ todo. IsSettling rows there first c.loop-provision.marks.current c.loop-provision.falls.waiting.items c.loop-provision.falls.fallen.items todo (Some lost)) next (before.step there first s));
    }

pub returns-clause-step : goal.returns-clause-step
returns-clause-step c =
    let long = ap length c.as_slice-provision-items.ensures in
    let none = from_none c.args.graph.now.dependents c.args.lost.now c.loop-provision.provision-index (omega arith) in
    λ there first s. subst (λ todo. IsSettling (shared c.args.graph.now.rows.items) there first c.loop-provision.marks.current c.loop-provision.falls.waiting.items c.loop-provision.falls.fallen.items todo (Some c.args.lost.now)) none (c.loop-provision.invariant.step there first s)
