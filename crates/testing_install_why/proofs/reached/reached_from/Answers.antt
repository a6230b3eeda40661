use Rattle.std.proofs.Common.{◌<◌, length, refl, sym, arith}
use Rattle.std.proofs.lemmas.List.{with_items_is}
use Rattle.std.proofs.lemmas.Option.{slice_get_read}
use Rattle.testing_install.specs.Closed.{marked}
use Rattle.testing_install_why.proofs.Reaching.{turn_more, turn_all}
use Rattle.testing_install_why.proofs.reached.reached_from.Goals as goal

pub turns-preserved : goal.turns-preserved
turns-preserved c =
    let rows = c.args.suite.now.rows in
    let below : c.turns.next < length c.turns.reached.items = omega (arith, c.turns-test.true, c.len.ensures, c.turns.reached.ok.0) in
    rw (with_items_is c.turns.unreached c.reach_from.new.unreached (omega (arith, c.in_ok-reach_from.ensures.grown.long, c.deref_mut.ensures.len)))
    (turn_more rows (marked c.args.suite.now.there) c.turns.unreached.items c.reach_from.new.unreached c.turns.reached.items c.reach_from.new.reached.items c.args.place c.turns.next c.index.result.now c.binary.result.now c.turns.invariant
    (rw (sym c.deref_mut.ensures.value) c.in_ok-reach_from.ensures.grown)
    (slice_get_read c.turns.reached.items (length c.turns.reached.items) c.turns.next c.index.result.now refl below c.index.ensures)
    c.binary.ensures
    c.in_ok-reach_from.ensures.shut)

pub returns-clause-reaching : goal.returns-clause-reaching
returns-clause-reaching c =
    turn_all c.args.suite.now.rows (marked c.args.suite.now.there) c.turns.unreached.items c.turns.reached.items c.args.place c.turns.next c.turns.invariant (omega (arith, c.turns-test.false, c.len.ensures, c.turns.reached.ok.0))
