use Rattle.std.proofs.Common.{◌<◌, ◌≤◌, length, arith}
use Rattle.std.proofs.lemmas.Option.{slice_get-get_or}
use Rattle.testing_install.specs.Rows.{binaries}
use Rattle.testing_install_why.proofs.CheckedByNames.{noted_step, noted_all}
use Rattle.testing_install_why.proofs.by_names.noted_clauses.Goals as goal

pub loop-number-preserved : goal.loop-number-preserved
loop-number-preserved c =
    let steps = c.args.steps.now in
    let n = c.loop-number.number in
    let below : n < length steps = omega arith in
    let at = slice_get-get_or steps n (record { place = 0; need = 0 }) below in
    noted_step (binaries c.args.rows.now) steps _ _ n _ _ at c.in-Some.ensures.clause c.loop-number.invariant c.in_ok-note_clause.ensures

pub returns : goal.returns
returns c =
    let over : length c.args.steps.now ≤ c.loop-number.number = omega arith in
    noted_all (binaries c.args.rows.now) c.args.steps.now c.loop-number.noted c.loop-number.number c.loop-number.invariant over
