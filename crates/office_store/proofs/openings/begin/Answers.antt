use Rattle.std.proofs.Common.{◌∙◌, subst, List, ℕ}
use Rattle.sqlite.specs.Held.{state}
use Rattle.office_store_tables.specs.Creating.{IsBlank}
use Rattle.office_store_tables.specs.Tables.{IsTrusted}
use Rattle.office_store_tables.specs.SetupText.{setup_text}
use Rattle.office_store.proofs.OpenLemmas.{new_kept}
use Rattle.office_store_tables.proofs.BlankFacts.{new_empty}
use Rattle.office_store.proofs.openings.begin.Goals as goal

own : (g : _) (c : goal.After-drop-text-2 g) → IsTrusted (state g.S.Store c.create.new.conn) → IsBlank (state g.S.Store c.create.new.conn).now.trees (record { schema = 2; setup = setup_text c.args.setup.now; finished = 0 })
own g c trusted =
    let db = (state g.S.Store c.create.new.conn).now in
    let text = c.as_str.ensures.value ∙ c.in_ok-text.ensures.text in
    subst (λ (t : List ℕ). IsBlank db.trees (record { schema = 2; setup = t; finished = 0 })) text (c.in_ok-create.ensures.blank trusted)

pub returns-clause-kept : goal.returns-clause-kept
returns-clause-kept g c trusted =
    new_kept c.args.setup.now (state g.S.Store c.create.new.conn).now c.setup_text.ensures.valid (c.in_ok-create.ensures.ours trusted).schema (own g c trusted)

pub returns-clause-fresh : goal.returns-clause-fresh
returns-clause-fresh g c trusted =
    new_empty c.args.setup.now (state g.S.Store c.create.new.conn).now.trees c.setup_text.ensures.valid (own g c trusted)
