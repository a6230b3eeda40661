use Rattle.std.proofs.Common.{◌≡◌, length, refl, sym, ap, subst, ◌∙◌, arith}
use Rattle.std.proofs.lemmas.Result.{IfOk-from_err}
use Rattle.sqlite.specs.Effect.{Database}
use Rattle.sqlite.specs.Held.{state}
use Rattle.office_store_testing_tables.specs.Legible.{AreReported}
use Rattle.office_store_testing_tables.proofs.Passed.{passed}
use Rattle.office_store_testing_tables.proofs.ReadingLemmas.{kept_read, failed_read, then_read}
use Rattle.office_store_tables.proofs.RestReads.{other_count, not_reported, read_all}
use Rattle.office_store_tables.proofs.checks.is_rest_whole.Goals as goal

pub returns-then-rows-texts-clause-whole : goal.returns-then-rows-texts-clause-whole
returns-then-rows-texts-clause-whole g c trusted low =
    other_count c.args.setup.now (state g.S.Store c.count.new.conn).now.trees c.args.finished c.args.texts c.in_ok-rows.rows (c.in_ok-rows.ensures.count trusted) c.if-rows-texts.true

pub returns-then-not-own-clause-whole : goal.returns-then-not-own-clause-whole
returns-then-not-own-clause-whole g c trusted low =
    not_reported c.args.setup.now (state g.S.Store c.are_reported.new.conn).now.trees c.args.finished c.args.texts c.in_ok-own.own c.if-not-own.true (c.in_ok-own.ensures.own trusted)

pub returns-clause-whole : goal.returns-clause-whole
returns-clause-whole g c trusted low =
    let second = c.in_ok-read_entries.ensures.reads.before trusted in
    let first = c.in_ok-own.ensures.reads.before second in
    let one = state g.S.Store c.count.new.conn in
    let two = state g.S.Store c.are_reported.new.conn in
    let three = state g.S.Store c.read_entries.new.conn in
    let b : two.now ≡ one.now = (c.in_ok-own.ensures.reads.same second).now in
    let d : three.now ≡ two.now = (c.in_ok-read_entries.ensures.reads.same trusted).now in
    let rows : c.in_ok-rows.rows ≡ length (three.now.trees 1) = c.in_ok-rows.ensures.count first ∙ ap (λ (x : Database). length (x.trees 1)) (sym (d ∙ b)) in
    let count : c.args.texts ≡ length (three.now.trees 1) = omega (arith, rows, c.if-rows-texts.false) in
    let runs : AreReported (three.now.trees 3) c.args.finished = subst (λ (x : Database). AreReported (x.trees 3) c.args.finished) (sym d) ((c.in_ok-own.ensures.own second).0 c.if-not-own.false) in
    let read = c.in_ok-read_entries.ensures.legible trusted in
    (λ _. read_all c.args.setup.now three.now.trees c.args.finished c.args.texts low count runs read.0 read.1, λ _. refl)

pub returns-in_err-rows-clause-whole : goal.returns-in_err-rows-clause-whole
returns-in_err-rows-clause-whole g c trusted = IfOk-from_err c.from_residual.result _ c.from_residual.ensures.0

pub returns-in_err-own-clause-whole : goal.returns-in_err-own-clause-whole
returns-in_err-own-clause-whole g c trusted = IfOk-from_err c.from_residual-in_err-own.result _ c.from_residual-in_err-own.ensures.0

pub returns-in_err-read_entries-clause-whole : goal.returns-in_err-read_entries-clause-whole
returns-in_err-read_entries-clause-whole g c trusted = IfOk-from_err c.from_residual-in_err-read_entries.result _ c.from_residual-in_err-read_entries.ensures.0

pub returns-in_err-own-clause-bad : goal.returns-in_err-own-clause-bad
returns-in_err-own-clause-bad g c trusted it bad =
    c.in_err-own.ensures.bad trusted it.office.said.finished it.runs (passed c.from_residual-in_err-own.result c.in_err-own.field-0.0 _ bad c.from_residual-in_err-own.ensures.1)

pub returns-in_err-read_entries-clause-bad : goal.returns-in_err-read_entries-clause-bad
returns-in_err-read_entries-clause-bad g c trusted it bad =
    c.in_err-read_entries.ensures.bad trusted it.mail it.testing it.facts (passed c.from_residual-in_err-read_entries.result c.in_err-read_entries.field-0.0 _ bad c.from_residual-in_err-read_entries.ensures.1)

pub returns-in_err-own-clause-reads : goal.returns-in_err-own-clause-reads
returns-in_err-own-clause-reads g c = then_read _ c.in_ok-rows.ensures.reads (failed_read _ c.from_residual-in_err-own.ensures.0 c.in_err-own.ensures.reads)

pub returns-then-not-own-clause-reads : goal.returns-then-not-own-clause-reads
returns-then-not-own-clause-reads g c = then_read _ c.in_ok-rows.ensures.reads (kept_read _ c.in_ok-own.ensures.reads)

pub returns-in_err-read_entries-clause-reads : goal.returns-in_err-read_entries-clause-reads
returns-in_err-read_entries-clause-reads g c = then_read _ (then_read _ c.in_ok-rows.ensures.reads c.in_ok-own.ensures.reads) (failed_read _ c.from_residual-in_err-read_entries.ensures.0 c.in_err-read_entries.ensures.reads)

pub returns-clause-reads : goal.returns-clause-reads
returns-clause-reads g c = then_read _ (then_read _ c.in_ok-rows.ensures.reads c.in_ok-own.ensures.reads) (kept_read _ c.in_ok-read_entries.ensures.reads)
