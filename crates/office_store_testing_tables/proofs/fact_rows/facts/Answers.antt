use Rattle.std.proofs.Common.{◌≡◌, List, map, sym, ap, subst, ◌∙◌}
use Rattle.std.proofs.lemmas.Result.{IfOk-from_err}
use Rattle.std.specs.List.Sorted.{IsPermutation}
use Rattle.sqlite.specs.Order.{Row}
use Rattle.sqlite.specs.Effect.{Database}
use Rattle.sqlite.specs.Held.{state}
use Rattle.office_store_keeper.specs.FactSet.{rows_in}
use Rattle.office_store_testing_tables.specs.TableContent.{release_place}
use Rattle.office_store_testing_tables.specs.steps.TableContent.{ReadsEach}
use Rattle.office_store_testing_tables.specs.FactTables.{fact_in}
use Rattle.office_store_testing_tables.specs.steps.FactSteps.{fact_columns, IsOnlyDelays}
use Rattle.office_store_testing_tables.proofs.FactReads.{facts_read, facts_are, read_back, delays_shown_one}
use Rattle.office_store_testing_tables.proofs.Passed.{passed}
use Rattle.office_store_testing_tables.proofs.ReadingLemmas.{kept_read, failed_read, then_read}
use Rattle.office_store_testing_tables.proofs.fact_rows.facts.Goals as goal

pub returns-clause-value : goal.returns-clause-value
returns-clause-value g c trusted =
    let one = state g.S.Store c.fact_rows.new.conn in
    let two = state g.S.Store c.delays_rows.new.conn in
    let release = release_place c.args.setup.now in
    let still : two.now ≡ one.now = (c.in_ok-last.ensures.reads.same trusted).now in
    let shown = subst (λ (d : Database). IsPermutation (map fact_columns (d.trees 8)) c.in_ok-shown.shown.items) (sym still) (c.in_ok-shown.ensures.finds (c.in_ok-last.ensures.reads.before trusted)) in
    let only = subst (λ n. IsOnlyDelays n c.in_ok-delays.delays c.in_ok-last.last.items) c.release_place-release.ensures (rw c.as_slice-2.ensures.value at c.in_ok-delays.ensures.ok) in
    c.in_ok-rows.ensures ∙ ap rows_in (facts_are release (two.now.trees 8) (two.now.trees 10) c.in_ok-shown.shown.items c.in_ok-last.last.items c.in_ok-facts.facts.items c.in_ok-delays.delays
    shown (c.in_ok-last.ensures.finds trusted) (rw c.as_slice.ensures.value at c.in_ok-facts.ensures.ok) only)

pub returns-clause-legible : goal.returns-clause-legible
returns-clause-legible g c trusted =
    let one = state g.S.Store c.fact_rows.new.conn in
    let two = state g.S.Store c.delays_rows.new.conn in
    let release = release_place c.args.setup.now in
    let still : two.now ≡ one.now = (c.in_ok-last.ensures.reads.same trusted).now in
    let shown = subst (λ (d : Database). IsPermutation (map fact_columns (d.trees 8)) c.in_ok-shown.shown.items) (sym still) (c.in_ok-shown.ensures.finds (c.in_ok-last.ensures.reads.before trusted)) in
    let only = subst (λ n. IsOnlyDelays n c.in_ok-delays.delays c.in_ok-last.last.items) c.release_place-release.ensures (rw c.as_slice-2.ensures.value at c.in_ok-delays.ensures.ok) in
    read_back release (two.now.trees 8) (two.now.trees 10) c.in_ok-shown.shown.items c.in_ok-last.last.items c.in_ok-facts.facts.items c.in_ok-delays.delays
    shown (c.in_ok-last.ensures.finds trusted) (rw c.as_slice.ensures.value at c.in_ok-facts.ensures.ok) only

pub returns-in_err-facts-clause-bad : goal.returns-in_err-facts-clause-bad
returns-in_err-facts-clause-bad g c trusted read bad =
    let one = state g.S.Store c.fact_rows.new.conn in
    c.in_err-facts.ensures.bad (passed c.from_residual-in_err-facts.result c.in_err-facts.field-0.0 _ bad c.from_residual-in_err-facts.ensures.1)
    (subst (λ (rows : List Row). ReadsEach fact_columns fact_in rows) (sym c.as_slice.ensures.value) (facts_read (one.now.trees 8) c.in_ok-shown.shown.items (c.in_ok-shown.ensures.finds trusted) read.fact))

pub returns-in_err-delays-clause-bad : goal.returns-in_err-delays-clause-bad
returns-in_err-delays-clause-bad g c trusted read bad =
    let two = state g.S.Store c.delays_rows.new.conn in
    let fault = passed c.from_residual-in_err-delays.result c.in_err-delays.field-0.0 _ bad c.from_residual-in_err-delays.ensures.1 in
    delays_shown_one (release_place c.args.setup.now) (two.now.trees 8) (two.now.trees 10) c.in_ok-last.last.items (c.in_ok-last.ensures.finds trusted) read (rw c.as_slice-2.ensures.value at (c.in_err-delays.ensures.none fault)) (rw c.as_slice-2.ensures.value at (c.in_err-delays.ensures.one fault))

pub returns-in_err-shown-clause-value : goal.returns-in_err-shown-clause-value
returns-in_err-shown-clause-value g c trusted = IfOk-from_err c.from_residual.result _ c.from_residual.ensures.0

pub returns-in_err-shown-clause-legible : goal.returns-in_err-shown-clause-legible
returns-in_err-shown-clause-legible g c trusted = IfOk-from_err c.from_residual.result _ c.from_residual.ensures.0

pub returns-in_err-facts-clause-value : goal.returns-in_err-facts-clause-value
returns-in_err-facts-clause-value g c trusted = IfOk-from_err c.from_residual-in_err-facts.result _ c.from_residual-in_err-facts.ensures.0

pub returns-in_err-facts-clause-legible : goal.returns-in_err-facts-clause-legible
returns-in_err-facts-clause-legible g c trusted = IfOk-from_err c.from_residual-in_err-facts.result _ c.from_residual-in_err-facts.ensures.0

pub returns-in_err-last-clause-value : goal.returns-in_err-last-clause-value
returns-in_err-last-clause-value g c trusted = IfOk-from_err c.from_residual-in_err-last.result _ c.from_residual-in_err-last.ensures.0

pub returns-in_err-last-clause-legible : goal.returns-in_err-last-clause-legible
returns-in_err-last-clause-legible g c trusted = IfOk-from_err c.from_residual-in_err-last.result _ c.from_residual-in_err-last.ensures.0

pub returns-in_err-delays-clause-value : goal.returns-in_err-delays-clause-value
returns-in_err-delays-clause-value g c trusted = IfOk-from_err c.from_residual-in_err-delays.result _ c.from_residual-in_err-delays.ensures.0

pub returns-in_err-delays-clause-legible : goal.returns-in_err-delays-clause-legible
returns-in_err-delays-clause-legible g c trusted = IfOk-from_err c.from_residual-in_err-delays.result _ c.from_residual-in_err-delays.ensures.0

pub returns-in_err-rows-clause-value : goal.returns-in_err-rows-clause-value
returns-in_err-rows-clause-value g c trusted = IfOk-from_err c.from_residual-in_err-rows.result _ c.from_residual-in_err-rows.ensures.0

pub returns-in_err-rows-clause-legible : goal.returns-in_err-rows-clause-legible
returns-in_err-rows-clause-legible g c trusted = IfOk-from_err c.from_residual-in_err-rows.result _ c.from_residual-in_err-rows.ensures.0

pub returns-in_err-last-clause-reads : goal.returns-in_err-last-clause-reads
returns-in_err-last-clause-reads g c = then_read _ c.in_ok-shown.ensures.reads (failed_read _ c.from_residual-in_err-last.ensures.0 c.in_err-last.ensures.reads)

pub returns-in_err-delays-clause-reads : goal.returns-in_err-delays-clause-reads
returns-in_err-delays-clause-reads g c = then_read _ c.in_ok-shown.ensures.reads (kept_read _ c.in_ok-last.ensures.reads)

pub returns-in_err-rows-clause-reads : goal.returns-in_err-rows-clause-reads
returns-in_err-rows-clause-reads g c = then_read _ c.in_ok-shown.ensures.reads (kept_read _ c.in_ok-last.ensures.reads)

pub returns-clause-reads : goal.returns-clause-reads
returns-clause-reads g c = then_read _ c.in_ok-shown.ensures.reads (kept_read _ c.in_ok-last.ensures.reads)
