use Rattle.std.proofs.Common.{◌≡◌, ap, ◌∙◌, sym, Option, subst, OnOk, Some}
use Rattle.sqlite.specs.Held.{state}
use Rattle.office_mail.specs.Lists.{Lists}
use Rattle.office_store.specs.Opening.{text_of_one, kept_text, lists_by}
use Rattle.office_store.specs.steps.Opening.{shown_office}
use Rattle.office_store_tables.specs.Tables.{IsTrusted}
use Rattle.office_store.proofs.OpenLemmas.{shown_text}
use Rattle.office_store.proofs.openings.go_on.Goals as goal

-- what is shown is what the table says
said : (g : _) (c : goal.After-drop-rows g) → IsTrusted (state g.S.Store c.office_rows.new.conn) → lists_by (text_of_one 2 shown_office c.as_slice.result.now) ≡ lists_by (kept_text ((state g.S.Store c.office_rows.new.conn).now.trees 0))
said g c trusted =
    ap (λ rows. lists_by (text_of_one 2 shown_office rows)) c.as_slice.ensures.value
    ∙ ap lists_by (shown_text 2 ((state g.S.Store c.office_rows.new.conn).now.trees 0) c.in_ok-rows.rows.items (c.in_ok-rows.ensures.finds trusted))

pub returns-clause-kept : goal.returns-clause-kept
returns-clause-kept g c trusted =
    subst (λ (o : Option Lists). OnOk c.judge.result (o ≡ Some c.args.setup.now)) (said g c trusted) c.judge.ensures.ok

pub returns-clause-other : goal.returns-clause-other
returns-clause-other g c trusted failed =
    let other = c.judge.ensures.other failed in
    (other.0, sym (said g c trusted) ∙ other.1, other.2)

pub returns-clause-unknown : goal.returns-clause-unknown
returns-clause-unknown g c trusted failed = sym (said g c trusted) ∙ c.judge.ensures.unknown failed
