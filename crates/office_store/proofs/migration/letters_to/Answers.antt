use Rattle.std.proofs.Common.{sym, subst, arith}
use Rattle.sqlite.specs.Held.{state}
use Rattle.office_store_tables.specs.TableSteps.{ShowsLetters}
use Rattle.office_store_tables.proofs.LoadFacts.{loaded_on}
use Rattle.office_store_tables.proofs.LoadLemmas.{shows_letters, few_letters}
use Rattle.office_store_tables.proofs.Passed.{passed}
use Rattle.office_store_tables.proofs.WithinLemmas.{kept_within, failed_within, failed_looks}
use Rattle.office_store.proofs.LookLemmas.{looks_on}
use Rattle.office_store.proofs.migration.letters_to.Goals as goal

pub returns-clause-looks : goal.returns-clause-looks
returns-clause-looks g c = looks_on _ c.in_ok-rows.ensures (λ trusted.
    loaded_on (λ v. v.items) ((state g.S.Store c.args.tx.now.conn.now).now.trees 1) c.args.sender 1 c.args.to c.in_ok-rows.rows.items c.in_ok-letters.letters.items c.by_number.result (c.in_ok-rows.ensures.yields trusted)
    (rw c.as_slice.ensures.value at c.in_ok-letters.ensures.ok) c.by_number.ensures.same c.by_number.ensures.rising)

pub returns-in_err-rows-clause-looks : goal.returns-in_err-rows-clause-looks
returns-in_err-rows-clause-looks g c = failed_looks _ c.from_residual.ensures.0 (failed_within _ c.from_residual.ensures.0 c.in_err-rows.ensures.steps)

pub returns-in_err-letters-clause-looks : goal.returns-in_err-letters-clause-looks
returns-in_err-letters-clause-looks g c = failed_looks _ c.from_residual-in_err-letters.ensures.0 (kept_within _ c.in_ok-rows.ensures.steps)

pub returns-clause-bad : goal.returns-clause-bad
returns-clause-bad g c trusted bad letters apart =
    c.by_number.ensures.bad bad
    (few_letters ((state g.S.Store c.args.tx.now.conn.now).now.trees 1) c.args.sender 1 c.args.to c.in_ok-rows.rows.items c.in_ok-letters.letters.items (c.in_ok-rows.ensures.yields trusted) (rw c.as_slice.ensures.value at c.in_ok-letters.ensures.ok) apart)

pub returns-in_err-letters-clause-bad : goal.returns-in_err-letters-clause-bad
returns-in_err-letters-clause-bad g c trusted bad letters apart =
    let shows = shows_letters ((state g.S.Store c.args.tx.now.conn.now).now.trees 1) c.args.sender 1 c.args.to c.in_ok-rows.rows.items (c.in_ok-rows.ensures.yields trusted) letters (omega arith) in
    c.in_err-letters.ensures.bad (passed c.from_residual-in_err-letters.result c.in_err-letters.field-0.0 _ bad c.from_residual-in_err-letters.ensures.1) (subst (ShowsLetters c.args.sender) (sym c.as_slice.ensures.value) shows)
