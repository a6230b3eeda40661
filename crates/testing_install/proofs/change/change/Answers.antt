use Rattle.std.proofs.Common.{arith, ◌∙◌, ap, true, false, ◌≡◌, [], length}
use Rattle.std.proofs.lemmas.Result.{IfOk-from_err}
use Rattle.testing_install.proofs.Marking.{length-with_all}
use Rattle.testing_install.proofs.Settled.{settling_whole}
use Rattle.testing_install.proofs.Sharing.{length-shared}
use Rattle.testing_install.proofs.Reviving.{reviving_begun, changed, places_in, bounded_by}
use Rattle.testing_install.specs.Among.{with_all}
use Rattle.testing_install.specs.Rows.{shared}
use Rattle.testing_install.specs.Closed.{marked}
use Rattle.testing_install.proofs.change.change.Goals as goal

pub set_all-requires-3 : goal.set_all-requires-3
set_all-requires-3 c = bounded_by _ _ c.args.coming.now c.requires.coming (omega (arith, ap length c.in_ok-set_all.ensures.set, length-with_all false c.args.leaving.now c.args.there.now.current, c.requires.right.there_len, length-shared c.args.graph.now.rows.items))

pub set_all-requires-4 : goal.set_all-requires-4
set_all-requires-4 c = bounded_by _ _ c.args.coming.now c.requires.coming (omega (arith, ap length c.in_ok-set_all-2.ensures.set, length-with_all false c.args.leaving.now c.args.marks.now.current, c.requires.right.installable_len, length-shared c.args.graph.now.rows.items))

pub revive-requires-clause-there : goal.revive-requires-clause-there
revive-requires-clause-there c = omega (arith, ap length c.current.ensures, ap length c.in_ok-set_all-3.ensures.set, ap length c.in_ok-set_all.ensures.set, length-with_all true c.args.coming.now c.set_all.new.marks.current, length-with_all false c.args.leaving.now c.args.there.now.current, c.requires.right.there_len, length-shared c.args.graph.now.rows.items)

pub revive-requires-clause-marks : goal.revive-requires-clause-marks
revive-requires-clause-marks c = omega (arith, ap length c.in_ok-set_all-4.ensures.set, ap length c.in_ok-set_all-2.ensures.set, length-with_all true c.args.coming.now c.set_all-2.new.marks.current, length-with_all false c.args.leaving.now c.args.marks.now.current, c.requires.right.installable_len, length-shared c.args.graph.now.rows.items)

pub returns-clause-changed : goal.returns-clause-changed
returns-clause-changed c =
    let rows = shared c.args.graph.now.rows.items in
    let there : c.set_all-3.new.marks.current ≡ with_all true c.args.coming.now (with_all false c.args.leaving.now c.args.there.now.current) = c.in_ok-set_all-3.ensures.set ∙ ap (λ xs. with_all true c.args.coming.now xs) c.in_ok-set_all.ensures.set in
    let marks : c.set_all-4.new.marks.current ≡ with_all true c.args.coming.now (with_all false c.args.leaving.now c.args.marks.now.current) = c.in_ok-set_all-4.ensures.set ∙ ap (λ xs. with_all true c.args.coming.now xs) c.in_ok-set_all-2.ensures.set in
    let leaving = places_in c.args.graph.now.rows.items c.args.leaving.now c.requires.leaving in
    let coming = places_in c.args.graph.now.rows.items c.args.coming.now c.requires.coming in
    let begun = reviving_begun rows c.args.there.now.current c.args.marks.now.current c.args.leaving.now c.args.coming.now c.requires.right leaving coming c.current.result.now _ _ (c.current.ensures ∙ there) marks c.in_ok-fresh.ensures.ok in
    let revived = c.in_ok-revive.ensures.revived (marked c.args.marks.now.current) begun in
    changed rows c.args.there.now.current c.args.marks.now.current c.args.leaving.now c.args.coming.now c.requires.right leaving coming c.set_all-3.new.marks.current c.set_all-4.new.marks.current c.revive.new.marks.current c.revive.new.fresh.items there marks (rw c.current.ensures at revived)
    c.in_ok-from_slice.field-0.items c.new.result.items c.deref.result.now c.in_ok-from_slice.ensures.ok c.new.ensures.items c.deref.ensures
    c.check_clauses.new.marks.current c.check_clauses.new.falls.waiting.items c.check_clauses.new.falls.fallen.items (λ set first s. c.in_ok-check_clauses.ensures.step set first [] (settling_whole rows set first _ _ _ _ _ s))
    c.propagate.new.marks.current c.propagate.new.falls.waiting.items c.propagate.new.falls.fallen.items c.in_ok-propagate.ensures.step
    c.in_ok-propagate.ensures.sized c.in_ok-propagate.ensures.empty

pub returns-in_err-set_all-clause-there : goal.returns-in_err-set_all-clause-there
returns-in_err-set_all-clause-there c = IfOk-from_err c.from_residual.result _ c.from_residual.ensures.0

pub returns-in_err-set_all-clause-changed : goal.returns-in_err-set_all-clause-changed
returns-in_err-set_all-clause-changed c = IfOk-from_err c.from_residual.result _ c.from_residual.ensures.0

pub returns-in_err-set_all-2-clause-there : goal.returns-in_err-set_all-2-clause-there
returns-in_err-set_all-2-clause-there c = IfOk-from_err c.from_residual-in_err-set_all-2.result _ c.from_residual-in_err-set_all-2.ensures.0

pub returns-in_err-set_all-2-clause-changed : goal.returns-in_err-set_all-2-clause-changed
returns-in_err-set_all-2-clause-changed c = IfOk-from_err c.from_residual-in_err-set_all-2.result _ c.from_residual-in_err-set_all-2.ensures.0

pub returns-in_err-set_all-3-clause-there : goal.returns-in_err-set_all-3-clause-there
returns-in_err-set_all-3-clause-there c = IfOk-from_err c.from_residual-in_err-set_all-3.result _ c.from_residual-in_err-set_all-3.ensures.0

pub returns-in_err-set_all-3-clause-changed : goal.returns-in_err-set_all-3-clause-changed
returns-in_err-set_all-3-clause-changed c = IfOk-from_err c.from_residual-in_err-set_all-3.result _ c.from_residual-in_err-set_all-3.ensures.0

pub returns-in_err-set_all-4-clause-there : goal.returns-in_err-set_all-4-clause-there
returns-in_err-set_all-4-clause-there c = IfOk-from_err c.from_residual-in_err-set_all-4.result _ c.from_residual-in_err-set_all-4.ensures.0

pub returns-in_err-set_all-4-clause-changed : goal.returns-in_err-set_all-4-clause-changed
returns-in_err-set_all-4-clause-changed c = IfOk-from_err c.from_residual-in_err-set_all-4.result _ c.from_residual-in_err-set_all-4.ensures.0

pub returns-in_err-fresh-clause-there : goal.returns-in_err-fresh-clause-there
returns-in_err-fresh-clause-there c = IfOk-from_err c.from_residual-in_err-fresh.result _ c.from_residual-in_err-fresh.ensures.0

pub returns-in_err-fresh-clause-changed : goal.returns-in_err-fresh-clause-changed
returns-in_err-fresh-clause-changed c = IfOk-from_err c.from_residual-in_err-fresh.result _ c.from_residual-in_err-fresh.ensures.0

pub returns-in_err-revive-clause-there : goal.returns-in_err-revive-clause-there
returns-in_err-revive-clause-there c = IfOk-from_err c.from_residual-in_err-revive.result _ c.from_residual-in_err-revive.ensures.0

pub returns-in_err-revive-clause-changed : goal.returns-in_err-revive-clause-changed
returns-in_err-revive-clause-changed c = IfOk-from_err c.from_residual-in_err-revive.result _ c.from_residual-in_err-revive.ensures.0

pub returns-in_err-from_slice-clause-there : goal.returns-in_err-from_slice-clause-there
returns-in_err-from_slice-clause-there c = IfOk-from_err c.from_residual-in_err-from_slice.result _ c.from_residual-in_err-from_slice.ensures.0

pub returns-in_err-from_slice-clause-changed : goal.returns-in_err-from_slice-clause-changed
returns-in_err-from_slice-clause-changed c = IfOk-from_err c.from_residual-in_err-from_slice.result _ c.from_residual-in_err-from_slice.ensures.0

pub returns-in_err-check_clauses-clause-there : goal.returns-in_err-check_clauses-clause-there
returns-in_err-check_clauses-clause-there c = IfOk-from_err c.from_residual-in_err-check_clauses.result _ c.from_residual-in_err-check_clauses.ensures.0

pub returns-in_err-check_clauses-clause-changed : goal.returns-in_err-check_clauses-clause-changed
returns-in_err-check_clauses-clause-changed c = IfOk-from_err c.from_residual-in_err-check_clauses.result _ c.from_residual-in_err-check_clauses.ensures.0

pub returns-in_err-propagate-clause-there : goal.returns-in_err-propagate-clause-there
returns-in_err-propagate-clause-there c = IfOk-from_err c.from_residual-in_err-propagate.result _ c.from_residual-in_err-propagate.ensures.0

pub returns-in_err-propagate-clause-changed : goal.returns-in_err-propagate-clause-changed
returns-in_err-propagate-clause-changed c = IfOk-from_err c.from_residual-in_err-propagate.result _ c.from_residual-in_err-propagate.ensures.0
