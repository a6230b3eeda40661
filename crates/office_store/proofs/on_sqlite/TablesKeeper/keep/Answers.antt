use Rattle.std.proofs.Common.{◌≡◌, ℕ, List, None, OnOk, sym, subst}
use Rattle.std.specs.FinMap.{get, insert}
use Rattle.sqlite.specs.Held.{state}
use Rattle.office_store_keeper.specs.Content.{with_text}
use Rattle.office_store_tables.specs.TableContent.{content_in}
use Rattle.office_store.specs.TablesState.{IsLegibleStore}
use Rattle.office_store_tables.specs.Tables.{IsTrusted, kept_rows}
use Rattle.office_store_tables.specs.TableSteps.{AddsLetter}
use Rattle.office_store_tables.proofs.KeepLemmas.{inserted_on}
use Rattle.office_store.proofs.KeeperFacts.{still_held}
use Rattle.office_store.proofs.LegibleKeep.{keep_legible_on, keep_testing_on, keep_content_on}
use Rattle.office_store.proofs.on_sqlite.TablesKeeper.keep.Goals as goal

-- the number was free
free : (g : _) (c : goal.After-count g) → IsTrusted (state g.S.Store c.keep.new.conn) → get (kept_rows ((state g.S.Store c.self.inside.conn).now.trees 1)) (c.args.sender, c.args.number) ≡ None
free g c trusted =
    subst (λ v. IsTrusted (state g.S.Store v.conn) → get (kept_rows ((state g.S.Store v.conn).now.trees 1)) (c.args.sender, c.args.number) ≡ None) (sym c.self.view_is) c.requires.free (c.keep.ensures.before trusted)

-- the letter was added
added : (g : _) (c : goal.After-count g) → IsTrusted (state g.S.Store c.keep.new.conn)
    → OnOk c.keep.result (AddsLetter (state g.S.Store c.self.inside.conn).now.trees (state g.S.Store c.keep.new.conn).now.trees c.args.sender c.args.number c.args.text.now)
added g c trusted =
    subst (λ (t : List ℕ). OnOk c.keep.result (AddsLetter (state g.S.Store c.self.inside.conn).now.trees (state g.S.Store c.keep.new.conn).now.trees c.args.sender c.args.number t)) c.as_slice.ensures
    (c.keep.ensures.kept trusted)

pub returns-clause-mail : goal.returns-clause-mail
returns-clause-mail g c trusted =
    let old = (state g.S.Store c.self.inside.conn).now in
    let new = (state g.S.Store c.keep.new.conn).now in
    subst (λ v. OnOk c.count.result (kept_rows (new.trees 1) ≡ insert (kept_rows ((state g.S.Store v.conn).now.trees 1)) (c.args.sender, c.args.number) c.args.text.now)) c.self.view_is
    (inserted_on c.count.result c.keep.result old.trees new.trees c.args.sender c.args.number c.args.text.now c.count.ensures.same (added g c trusted) (free g c trusted))

pub returns-clause-kept : goal.returns-clause-kept
returns-clause-kept g c trusted =
    let inside = c.self.inside in
    let old = (state g.S.Store inside.conn).now in
    let new = (state g.S.Store c.keep.new.conn).now in
    subst (λ v. IsLegibleStore v.setup (state g.S.Store v.conn).now.trees v.in_memory
    → OnOk c.count.result (content_in inside.setup new.trees ≡ with_text (content_in v.setup (state g.S.Store v.conn).now.trees) c.args.sender c.args.number c.args.text.now)) c.self.view_is
    (λ was. keep_content_on c.keep.result inside.setup old new c.args.sender c.args.number c.args.text.now (added g c trusted) (free g c trusted) was.tables c.count.result c.count.ensures.same)

pub returns-clause-legible : goal.returns-clause-legible
returns-clause-legible g c trusted =
    let inside = c.self.inside in
    let old = (state g.S.Store inside.conn).now in
    let new = (state g.S.Store c.keep.new.conn).now in
    subst (λ v. IsLegibleStore v.setup (state g.S.Store v.conn).now.trees v.in_memory → IsLegibleStore inside.setup new.trees inside.in_memory) c.self.view_is
    (λ was. record {
      tables = keep_legible_on c.keep.result inside.setup old new c.args.sender c.args.number c.args.text.now (added g c trusted) (free g c trusted) was.tables (c.keep.ensures.err trusted);
      testing = still_held inside.in_memory (content_in inside.setup old.trees).testing (content_in inside.setup new.trees).testing
          (keep_testing_on c.keep.result inside.setup old new c.args.sender c.args.number c.args.text.now (added g c trusted) (free g c trusted) was.tables (c.keep.ensures.err trusted)) was.testing;
    })
