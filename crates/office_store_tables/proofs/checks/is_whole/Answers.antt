use Rattle.std.proofs.Common.{◌≡◌, ◌≤◌, Some, None, sym, subst}
use Rattle.std.specs.Prelude.{◌↔◌, IsTrue}
use Rattle.std.specs.FinMap.{len}
use Rattle.std.proofs.lemmas.Result.{IfOk-from_err, IfOk-weaker}
use Rattle.sqlite.specs.Effect.{Database}
use Rattle.sqlite.specs.Held.{state}
use Rattle.office_store_testing_tables.specs.Tables.{kept_rows}
use Rattle.office_store_testing_tables.specs.Legible.{IsLegible}
use Rattle.office_store_testing_tables.proofs.Passed.{passed}
use Rattle.office_store_testing_tables.proofs.ReadingLemmas.{kept_read, then_read}
use Rattle.office_store_tables.specs.steps.Reading.{SaysFor, IsOwnCount}
use Rattle.office_store_tables.proofs.RestReads.{whole_by, not_own}
use Rattle.office_store_tables.proofs.checks.is_whole.Goals as goal

pub returns-in-Some-clause-whole : goal.returns-in-Some-clause-whole
returns-in-Some-clause-whole g c trusted =
    let setup = c.args.setup.now in
    let finished = c.in-Some.finished in
    let ensures = c.is_rest_whole.ensures in
    let one = (state g.S.Store c.own_count.new.conn).now in
    let two = (state g.S.Store c.is_rest_whole.new.conn).now in
    let earlier : SaysFor setup (one.trees 0) finished = subst (IsOwnCount setup (one.trees 0)) c.in-Some.is (c.in_ok-own.ensures.own (ensures.reads.before trusted)) in
    let says : SaysFor setup (two.trees 0) finished = subst (λ (d : Database). SaysFor setup (d.trees 0) finished) (sym (ensures.reads.same trusted).now) earlier in
    IfOk-weaker c.is_rest_whole.result _ (λ whole. c.args.texts ≤ len (kept_rows (two.trees 1)) → (IsTrue whole ↔ (IsLegible setup two.trees × (len (kept_rows (two.trees 1)) ≡ c.args.texts))))
    (λ whole rest low. whole_by setup two.trees finished c.args.texts whole says (rest low)) (ensures.whole trusted)

pub returns-in-None-clause-whole : goal.returns-in-None-clause-whole
returns-in-None-clause-whole g c trusted low =
    let db = (state g.S.Store c.own_count.new.conn).now.trees in
    not_own c.args.setup.now db c.args.texts (subst (IsOwnCount c.args.setup.now (db 0)) c.in-None.is (c.in_ok-own.ensures.own trusted))

pub returns-in_err-own-clause-whole : goal.returns-in_err-own-clause-whole
returns-in_err-own-clause-whole g c trusted = IfOk-from_err c.from_residual.result _ c.from_residual.ensures.0

pub returns-in_err-own-clause-bad : goal.returns-in_err-own-clause-bad
returns-in_err-own-clause-bad g c trusted it bad = c.in_err-own.ensures.bad trusted it.office (passed c.from_residual.result c.in_err-own.field-0.0 _ bad c.from_residual.ensures.1)

pub returns-in-Some-clause-reads : goal.returns-in-Some-clause-reads
returns-in-Some-clause-reads g c = then_read _ c.in_ok-own.ensures.reads c.is_rest_whole.ensures.reads

pub returns-in-None-clause-reads : goal.returns-in-None-clause-reads
returns-in-None-clause-reads g c = kept_read _ c.in_ok-own.ensures.reads
