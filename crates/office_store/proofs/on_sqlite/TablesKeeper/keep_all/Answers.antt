use Rattle.std.proofs.Common.{◌≡◌, sym, ap, subst}
use Rattle.sqlite.specs.Effect.{Database}
use Rattle.sqlite.specs.Held.{state}
use Rattle.office_store_keeper.specs.Content.{Content}
use Rattle.office_store_keeper.specs.NewMail.{AreFree, with_letters, with_mail}
use Rattle.office_store_tables.specs.TableContent.{content_in}
use Rattle.office_store.specs.TablesState.{IsLegibleStore}
use Rattle.office_store_tables.specs.Tables.{IsTrusted, kept_rows}
use Rattle.office_store_tables.proofs.KeepAllLemmas.{all_inserted}
use Rattle.office_store.proofs.KeeperFacts.{still_held}
use Rattle.office_store.proofs.LegibleKeepAll.{when_ok, when_err, keep_all_content, keep_all_legible, all_leave_reports, all_leave_facts}
use Rattle.office_store.proofs.on_sqlite.TablesKeeper.keep_all.Goals as goal

pub returns-clause-mail : goal.returns-clause-mail
returns-clause-mail g c trusted =
    let old = (state g.S.Store c.self.inside.conn).now.trees in
    let new = (state g.S.Store c.keep_all.new.conn).now.trees in
    subst (λ v. (IsTrusted (state g.S.Store v.conn) → AreFree (kept_rows ((state g.S.Store v.conn).now.trees 1)) c.args.letters.now) → kept_rows (new 1) ≡ with_letters (kept_rows ((state g.S.Store v.conn).now.trees 1)) c.args.letters.now) c.self.view_is
    (λ free. all_inserted old new c.args.letters.now (when_ok c.keep_all.result _ c.in_ok-count.ensures.same (c.keep_all.ensures.kept trusted)) (free (c.keep_all.ensures.before trusted))) c.requires.free

pub returns-clause-kept : goal.returns-clause-kept
returns-clause-kept g c trusted =
    let inside = c.self.inside in
    let old = (state g.S.Store inside.conn).now.trees in
    let new = (state g.S.Store c.keep_all.new.conn).now.trees in
    subst (λ v. (IsTrusted (state g.S.Store v.conn) → AreFree (kept_rows ((state g.S.Store v.conn).now.trees 1)) c.args.letters.now) → IsLegibleStore v.setup (state g.S.Store v.conn).now.trees v.in_memory
    → content_in inside.setup new ≡ with_mail (content_in v.setup (state g.S.Store v.conn).now.trees) c.args.letters.now) c.self.view_is
    (λ free was. keep_all_content inside.setup old new c.args.letters.now (when_ok c.keep_all.result _ c.in_ok-count.ensures.same (c.keep_all.ensures.kept trusted)) (free (c.keep_all.ensures.before trusted)) was.tables) c.requires.free

pub returns-clause-legible : goal.returns-clause-legible
returns-clause-legible g c trusted =
    let inside = c.self.inside in
    let old = (state g.S.Store inside.conn).now.trees in
    let new = (state g.S.Store c.keep_all.new.conn).now.trees in
    subst (λ v. (IsTrusted (state g.S.Store v.conn) → AreFree (kept_rows ((state g.S.Store v.conn).now.trees 1)) c.args.letters.now) → IsLegibleStore v.setup (state g.S.Store v.conn).now.trees v.in_memory → IsLegibleStore inside.setup new inside.in_memory) c.self.view_is
    (λ free was.
    let kept = when_ok c.keep_all.result _ c.in_ok-count.ensures.same (c.keep_all.ensures.kept trusted) in
    let places = free (c.keep_all.ensures.before trusted) in
    record {
      tables = keep_all_legible inside.setup old new c.args.letters.now kept places was.tables;
      testing = still_held inside.in_memory (content_in inside.setup old).testing (content_in inside.setup new).testing (ap (λ (content : Content). content.testing) (keep_all_content inside.setup old new c.args.letters.now kept places was.tables)) was.testing;
    }) c.requires.free

pub returns-clause-reports : goal.returns-clause-reports
returns-clause-reports g c trusted =
    let inside = c.self.inside in
    let new = (state g.S.Store c.keep_all.new.conn).now.trees in
    subst (λ v. (content_in inside.setup new).reports ≡ (content_in v.setup (state g.S.Store v.conn).now.trees).reports) c.self.view_is
    (all_leave_reports inside.setup (state g.S.Store inside.conn).now.trees new c.args.letters.now (when_ok c.keep_all.result _ c.in_ok-count.ensures.same (c.keep_all.ensures.kept trusted)))

pub returns-clause-facts : goal.returns-clause-facts
returns-clause-facts g c trusted =
    let inside = c.self.inside in
    let new = (state g.S.Store c.keep_all.new.conn).now.trees in
    subst (λ v. (content_in inside.setup new).facts ≡ (content_in v.setup (state g.S.Store v.conn).now.trees).facts) c.self.view_is
    (all_leave_facts inside.setup (state g.S.Store inside.conn).now.trees new c.args.letters.now (when_ok c.keep_all.result _ c.in_ok-count.ensures.same (c.keep_all.ensures.kept trusted)))

pub returns-in_err-count-clause-legible : goal.returns-in_err-count-clause-legible
returns-in_err-count-clause-legible g c trusted =
    let inside = c.self.inside in
    let new = (state g.S.Store c.keep_all.new.conn).now in
    subst (λ v. IsLegibleStore v.setup (state g.S.Store v.conn).now.trees v.in_memory → IsLegibleStore inside.setup new.trees inside.in_memory) c.self.view_is
    (λ was. subst (λ (d : Database). IsLegibleStore inside.setup d.trees inside.in_memory) (sym (when_err c.keep_all.result _ c.in_err-count.ensures.same (c.keep_all.ensures.err trusted))) was)
