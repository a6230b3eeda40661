use Rattle.std.proofs.Common.{◌≡◌, sym, ap, ◌∙◌}
use Rattle.sqlite.specs.Held.{state}
use Rattle.office_store.specs.Opening.{lists_by, text_of_one, text_before}
use Rattle.office_store.specs.steps.Opening.{shown_office}
use Rattle.office_store_tables.specs.Tables.{IsTrusted}
use Rattle.office_store.proofs.MigrateLemmas.{judges_on, shown_before}
use Rattle.office_store_tables.proofs.WithinLemmas.{failed_within, failed_looks}
use Rattle.office_store.proofs.LookLemmas.{looks_on}
use Rattle.office_store.proofs.migration.judged.Goals as goal

-- what is shown is what the table says
said : (g : _) (c : goal.After-drop-rows g) → IsTrusted (state g.S.Store c.office_rows.new.tx.conn.now) → lists_by (text_of_one 1 shown_office c.as_slice.result.now) ≡ lists_by (text_before ((state g.S.Store c.args.tx.now.conn.now).now.trees 0))
said g c trusted =
    ap (λ rows. lists_by (text_of_one 1 shown_office rows)) c.as_slice.ensures.value ∙ shown_before ((state g.S.Store c.args.tx.now.conn.now).now.trees 0) c.in_ok-rows.rows.items (c.in_ok-rows.ensures.yields trusted)

pub returns-clause-looks : goal.returns-clause-looks
returns-clause-looks g c = looks_on _ c.in_ok-rows.ensures (λ trusted. judges_on c.args.setup.now ((state g.S.Store c.args.tx.now.conn.now).now.trees 0) c.in_ok-rows.rows.items c.count_judged.result (c.in_ok-rows.ensures.yields trusted) (rw c.as_slice.ensures.value at c.count_judged.ensures.ok))

pub returns-in_err-rows-clause-looks : goal.returns-in_err-rows-clause-looks
returns-in_err-rows-clause-looks g c = failed_looks _ c.from_residual.ensures.0 (failed_within _ c.from_residual.ensures.0 c.in_err-rows.ensures.steps)

pub returns-clause-other : goal.returns-clause-other
returns-clause-other g c trusted failed =
    let other = c.count_judged.ensures.other failed in
    (other.0, sym (said g c trusted) ∙ other.1, other.2)

pub returns-clause-unknown : goal.returns-clause-unknown
returns-clause-unknown g c trusted failed = sym (said g c trusted) ∙ c.count_judged.ensures.unknown failed
