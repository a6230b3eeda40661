use Rattle.std.proofs.Common.{◌≡◌, List, Some, map, sym, subst, ◌∙◌}
use Rattle.std.specs.List.Sorted.{IsPermutation}
use Rattle.std.proofs.lemmas.List.Sorted.{IsPermutation-trans, All-permutation}
use Rattle.std.proofs.lemmas.List.Elements.{All-from_recursion, recursion_from_All}
use Rattle.std.proofs.lemmas.Result.{IfOk-from_err}
use Rattle.sqlite.specs.Order.{Row}
use Rattle.sqlite.specs.Effect.{Database}
use Rattle.sqlite.specs.Held.{state}
use Rattle.office_store_testing_tables.specs.Tables.{kept_rows}
use Rattle.office_store_testing_tables.specs.steps.EntrySteps.{source_columns, entry_columns}
use Rattle.office_store_testing_tables.specs.steps.TableContent.{source_of, row_of, ReadsEach}
use Rattle.testing_rules_model.specs.declared.suite.RowIn.{RowIn}
use Rattle.office_store_keeper.specs.Provenance.{IsArchPlace}
use Rattle.office_store_testing_tables.proofs.EntryLists.{reordered}
use Rattle.office_store_testing_tables.proofs.EntryValues.{gathered_on, named_on, known_on}
use Rattle.office_store_testing_tables.proofs.NamedReads.{sources_read, sources_put, rows_read, rows_put}
use Rattle.office_store_testing_tables.proofs.Passed.{passed}
use Rattle.office_store_testing_tables.proofs.Whole.{not_crowded}
use Rattle.office_store_testing_tables.proofs.ReadingLemmas.{kept_read, failed_read, then_read}
use Rattle.office_store_testing_tables.proofs.entries.testing.Goals as goal

pub returns-clause-known : goal.returns-clause-known
returns-clause-known g c =
    let known = λ (r : RowIn). IsArchPlace c.args.setup.now.archs r.arch in
    known_on c.args.setup.now.archs c.by_name-sources.result.items c.by_key-rows.result.items c.gathered.result
    (recursion_from_All known c.by_key-rows.result.items (All-permutation known c.in_ok-given.given.items c.by_key-rows.result.items c.by_key-rows.ensures (All-from_recursion known c.in_ok-given.given.items c.in_ok-given.ensures.known)))
    c.gathered.ensures.ok

pub returns-clause-value : goal.returns-clause-value
returns-clause-value g c fourth =
    let third = c.in_ok-given.ensures.reads.before fourth in
    let second = c.in_ok-found.ensures.reads.before third in
    let first = c.in_ok-read.ensures.reads.before second in
    let one = state g.S.Store c.source_rows.new.conn in
    let two = state g.S.Store c.sources_at.new.conn in
    let three = state g.S.Store c.entry_rows.new.conn in
    let four = state g.S.Store c.rows_at.new.conn in
    let b : two.now ≡ one.now = (c.in_ok-read.ensures.reads.same second).now in
    let d : three.now ≡ two.now = (c.in_ok-found.ensures.reads.same third).now in
    let e : four.now ≡ three.now = (c.in_ok-given.ensures.reads.same fourth).now in
    let uploads = c.by_message-uploads.result.items in
    let named = subst (λ (x : Database). IsPermutation (map source_columns (x.trees 4)) uploads) (sym (e ∙ d ∙ b)) (IsPermutation-trans (map source_columns (one.now.trees 4)) c.in_ok-named.named.items uploads (c.in_ok-named.ensures.finds first) c.by_message-uploads.ensures) in
    let said = subst (λ (x : Database). map (source_of c.args.setup.now (kept_rows (x.trees 1))) uploads ≡ map Some c.in_ok-read.read.items) (sym (e ∙ d)) (rw c.as_slice.ensures.value at (c.in_ok-read.ensures.ok second)) in
    let sources = reordered (source_of c.args.setup.now (kept_rows (four.now.trees 1))) uploads c.in_ok-read.read.items c.by_name-sources.result.items said c.by_name-sources.ensures in
    let put = reordered (row_of c.args.setup.now (kept_rows (four.now.trees 1))) c.by_message-listed.result.items c.in_ok-given.given.items c.by_key-rows.result.items (rw c.as_slice-2.ensures.value at (c.in_ok-given.ensures.ok fourth)) c.by_key-rows.ensures in
    gathered_on c.args.setup.now (kept_rows (four.now.trees 1)) (four.now.trees 4) (four.now.trees 6) sources.rows put.rows c.by_name-sources.result.items c.by_key-rows.result.items c.gathered.result
    (IsPermutation-trans (map source_columns (four.now.trees 4)) uploads sources.rows named sources.same)
    (subst (λ (x : Database). IsPermutation (map entry_columns (x.trees 6)) put.rows) (sym e) (IsPermutation-trans (map entry_columns (three.now.trees 6)) c.by_message-listed.result.items put.rows (IsPermutation-trans (map entry_columns (three.now.trees 6)) c.in_ok-found.found.items c.by_message-listed.result.items (c.in_ok-found.ensures.finds third) c.by_message-listed.ensures) put.same))
    sources.reads
    put.reads
    c.gathered.ensures.ok

pub returns-clause-legible : goal.returns-clause-legible
returns-clause-legible g c fourth =
    let third = c.in_ok-given.ensures.reads.before fourth in
    let second = c.in_ok-found.ensures.reads.before third in
    let first = c.in_ok-read.ensures.reads.before second in
    let one = state g.S.Store c.source_rows.new.conn in
    let two = state g.S.Store c.sources_at.new.conn in
    let three = state g.S.Store c.entry_rows.new.conn in
    let four = state g.S.Store c.rows_at.new.conn in
    let b : two.now ≡ one.now = (c.in_ok-read.ensures.reads.same second).now in
    let d : three.now ≡ two.now = (c.in_ok-found.ensures.reads.same third).now in
    let e : four.now ≡ three.now = (c.in_ok-given.ensures.reads.same fourth).now in
    let uploads = c.by_message-uploads.result.items in
    let named = subst (λ (x : Database). IsPermutation (map source_columns (x.trees 4)) uploads) (sym (e ∙ d ∙ b)) (IsPermutation-trans (map source_columns (one.now.trees 4)) c.in_ok-named.named.items uploads (c.in_ok-named.ensures.finds first) c.by_message-uploads.ensures) in
    let said = subst (λ (x : Database). map (source_of c.args.setup.now (kept_rows (x.trees 1))) uploads ≡ map Some c.in_ok-read.read.items) (sym (e ∙ d)) (rw c.as_slice.ensures.value at (c.in_ok-read.ensures.ok second)) in
    let sources = reordered (source_of c.args.setup.now (kept_rows (four.now.trees 1))) uploads c.in_ok-read.read.items c.by_name-sources.result.items said c.by_name-sources.ensures in
    let put = reordered (row_of c.args.setup.now (kept_rows (four.now.trees 1))) c.by_message-listed.result.items c.in_ok-given.given.items c.by_key-rows.result.items (rw c.as_slice-2.ensures.value at (c.in_ok-given.ensures.ok fourth)) c.by_key-rows.ensures in
    named_on c.args.setup.now four.now.trees sources.rows put.rows c.by_name-sources.result.items c.by_key-rows.result.items c.gathered.result
    (IsPermutation-trans (map source_columns (four.now.trees 4)) uploads sources.rows named sources.same)
    (subst (λ (x : Database). IsPermutation (map entry_columns (x.trees 6)) put.rows) (sym e) (IsPermutation-trans (map entry_columns (three.now.trees 6)) c.by_message-listed.result.items put.rows (IsPermutation-trans (map entry_columns (three.now.trees 6)) c.in_ok-found.found.items c.by_message-listed.result.items (c.in_ok-found.ensures.finds third) c.by_message-listed.ensures) put.same))
    sources.reads
    put.reads
    c.gathered.ensures.ok

pub returns-in_err-read-clause-bad : goal.returns-in_err-read-clause-bad
returns-in_err-read-clause-bad g c second whole named bad =
    let ensures = c.in_err-read.ensures in
    let one = state g.S.Store c.source_rows.new.conn in
    let two = state g.S.Store c.sources_at.new.conn in
    let setup = c.args.setup.now in
    let uploads = c.by_message-uploads.result.items in
    let shown = subst (λ (d : Database). IsPermutation (map source_columns (d.trees 4)) uploads) (sym (ensures.reads.same second).now) (IsPermutation-trans (map source_columns (one.now.trees 4)) c.in_ok-named.named.items uploads (c.in_ok-named.ensures.finds (ensures.reads.before second)) c.by_message-uploads.ensures) in
    let reads = sources_read setup (kept_rows (two.now.trees 1)) (two.now.trees 4) uploads shown named.sources named.source in
    not_crowded (two.now.trees 1) whole (ensures.bad second (passed c.from_residual-in_err-read.result c.in_err-read.field-0.0 _ bad c.from_residual-in_err-read.ensures.1)
    (subst (λ (rows : List Row). ReadsEach source_columns (source_of setup (kept_rows (two.now.trees 1))) rows) (sym c.as_slice.ensures.value) reads))

pub returns-in_err-given-clause-bad : goal.returns-in_err-given-clause-bad
returns-in_err-given-clause-bad g c fourth whole named bad =
    let ensures = c.in_err-given.ensures in
    let three = state g.S.Store c.entry_rows.new.conn in
    let four = state g.S.Store c.rows_at.new.conn in
    let setup = c.args.setup.now in
    let shown = subst (λ (d : Database). IsPermutation (map entry_columns (d.trees 6)) c.by_message-listed.result.items) (sym (ensures.reads.same fourth).now) (IsPermutation-trans (map entry_columns (three.now.trees 6)) c.in_ok-found.found.items c.by_message-listed.result.items (c.in_ok-found.ensures.finds (ensures.reads.before fourth)) c.by_message-listed.ensures) in
    let reads = rows_read setup (kept_rows (four.now.trees 1)) (four.now.trees 6) c.by_message-listed.result.items shown named.rows named.row in
    not_crowded (four.now.trees 1) whole (ensures.bad fourth (passed c.from_residual-in_err-given.result c.in_err-given.field-0.0 _ bad c.from_residual-in_err-given.ensures.1)
    (subst (λ (rows : List Row). ReadsEach entry_columns (row_of setup (kept_rows (four.now.trees 1))) rows) (sym c.as_slice-2.ensures.value) reads))

pub returns-clause-bad : goal.returns-clause-bad
returns-clause-bad g c fourth whole named bad =
    let third = c.in_ok-given.ensures.reads.before fourth in
    let second = c.in_ok-found.ensures.reads.before third in
    let first = c.in_ok-read.ensures.reads.before second in
    let one = state g.S.Store c.source_rows.new.conn in
    let two = state g.S.Store c.sources_at.new.conn in
    let three = state g.S.Store c.entry_rows.new.conn in
    let four = state g.S.Store c.rows_at.new.conn in
    let setup = c.args.setup.now in
    let b : two.now ≡ one.now = (c.in_ok-read.ensures.reads.same second).now in
    let d : three.now ≡ two.now = (c.in_ok-found.ensures.reads.same third).now in
    let e : four.now ≡ three.now = (c.in_ok-given.ensures.reads.same fourth).now in
    let uploads = c.by_message-uploads.result.items in
    let shown = subst (λ (x : Database). IsPermutation (map source_columns (x.trees 4)) uploads) (sym (e ∙ d ∙ b)) (IsPermutation-trans (map source_columns (one.now.trees 4)) c.in_ok-named.named.items uploads (c.in_ok-named.ensures.finds first) c.by_message-uploads.ensures) in
    let said = subst (λ (x : Database). map (source_of setup (kept_rows (x.trees 1))) uploads ≡ map Some c.in_ok-read.read.items) (sym (e ∙ d)) (rw c.as_slice.ensures.value at (c.in_ok-read.ensures.ok second)) in
    let sources = reordered (source_of setup (kept_rows (four.now.trees 1))) uploads c.in_ok-read.read.items c.by_name-sources.result.items said c.by_name-sources.ensures in
    let put = reordered (row_of setup (kept_rows (four.now.trees 1))) c.by_message-listed.result.items c.in_ok-given.given.items c.by_key-rows.result.items (rw c.as_slice-2.ensures.value at (c.in_ok-given.ensures.ok fourth)) c.by_key-rows.ensures in
    let rows = subst (λ (x : Database). IsPermutation (map entry_columns (x.trees 6)) put.rows) (sym e) (IsPermutation-trans (map entry_columns (three.now.trees 6)) c.by_message-listed.result.items put.rows (IsPermutation-trans (map entry_columns (three.now.trees 6)) c.in_ok-found.found.items c.by_message-listed.result.items (c.in_ok-found.ensures.finds third) c.by_message-listed.ensures) put.same) in
    c.gathered.ensures.bad bad (sources_put setup (kept_rows (four.now.trees 1)) (four.now.trees 4) sources.rows (IsPermutation-trans (map source_columns (four.now.trees 4)) uploads sources.rows shown sources.same) named.sources c.by_name-sources.result.items sources.reads)
    (rows_put setup (kept_rows (four.now.trees 1)) (four.now.trees 6) put.rows rows named.rows c.by_key-rows.result.items put.reads)

pub returns-in_err-named-clause-known : goal.returns-in_err-named-clause-known
returns-in_err-named-clause-known g c = IfOk-from_err c.from_residual.result _ c.from_residual.ensures.0

pub returns-in_err-named-clause-value : goal.returns-in_err-named-clause-value
returns-in_err-named-clause-value g c trusted = IfOk-from_err c.from_residual.result _ c.from_residual.ensures.0

pub returns-in_err-named-clause-legible : goal.returns-in_err-named-clause-legible
returns-in_err-named-clause-legible g c trusted = IfOk-from_err c.from_residual.result _ c.from_residual.ensures.0

pub returns-in_err-read-clause-known : goal.returns-in_err-read-clause-known
returns-in_err-read-clause-known g c = IfOk-from_err c.from_residual-in_err-read.result _ c.from_residual-in_err-read.ensures.0

pub returns-in_err-read-clause-value : goal.returns-in_err-read-clause-value
returns-in_err-read-clause-value g c trusted = IfOk-from_err c.from_residual-in_err-read.result _ c.from_residual-in_err-read.ensures.0

pub returns-in_err-read-clause-legible : goal.returns-in_err-read-clause-legible
returns-in_err-read-clause-legible g c trusted = IfOk-from_err c.from_residual-in_err-read.result _ c.from_residual-in_err-read.ensures.0

pub returns-in_err-found-clause-known : goal.returns-in_err-found-clause-known
returns-in_err-found-clause-known g c = IfOk-from_err c.from_residual-in_err-found.result _ c.from_residual-in_err-found.ensures.0

pub returns-in_err-found-clause-value : goal.returns-in_err-found-clause-value
returns-in_err-found-clause-value g c trusted = IfOk-from_err c.from_residual-in_err-found.result _ c.from_residual-in_err-found.ensures.0

pub returns-in_err-found-clause-legible : goal.returns-in_err-found-clause-legible
returns-in_err-found-clause-legible g c trusted = IfOk-from_err c.from_residual-in_err-found.result _ c.from_residual-in_err-found.ensures.0

pub returns-in_err-given-clause-known : goal.returns-in_err-given-clause-known
returns-in_err-given-clause-known g c = IfOk-from_err c.from_residual-in_err-given.result _ c.from_residual-in_err-given.ensures.0

pub returns-in_err-given-clause-value : goal.returns-in_err-given-clause-value
returns-in_err-given-clause-value g c trusted = IfOk-from_err c.from_residual-in_err-given.result _ c.from_residual-in_err-given.ensures.0

pub returns-in_err-given-clause-legible : goal.returns-in_err-given-clause-legible
returns-in_err-given-clause-legible g c trusted = IfOk-from_err c.from_residual-in_err-given.result _ c.from_residual-in_err-given.ensures.0

pub returns-in_err-read-clause-reads : goal.returns-in_err-read-clause-reads
returns-in_err-read-clause-reads g c = then_read _ c.in_ok-named.ensures.reads (failed_read _ c.from_residual-in_err-read.ensures.0 c.in_err-read.ensures.reads)

pub returns-in_err-found-clause-reads : goal.returns-in_err-found-clause-reads
returns-in_err-found-clause-reads g c = then_read _ (then_read _ c.in_ok-named.ensures.reads c.in_ok-read.ensures.reads) (failed_read _ c.from_residual-in_err-found.ensures.0 c.in_err-found.ensures.reads)

pub returns-in_err-given-clause-reads : goal.returns-in_err-given-clause-reads
returns-in_err-given-clause-reads g c = then_read _ (then_read _ (then_read _ c.in_ok-named.ensures.reads c.in_ok-read.ensures.reads) c.in_ok-found.ensures.reads) (failed_read _ c.from_residual-in_err-given.ensures.0 c.in_err-given.ensures.reads)

pub returns-clause-reads : goal.returns-clause-reads
returns-clause-reads g c = then_read _ (then_read _ (then_read _ c.in_ok-named.ensures.reads c.in_ok-read.ensures.reads) c.in_ok-found.ensures.reads) (kept_read _ c.in_ok-given.ensures.reads)
