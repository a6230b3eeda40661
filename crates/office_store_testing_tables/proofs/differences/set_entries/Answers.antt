use Rattle.std.proofs.Common.{◌≡◌, map, sym, ap, subst}
use Rattle.std.specs.List.Sorted.{IsPermutation}
use Rattle.std.proofs.lemmas.List.Sorted.{IsPermutation-trans}
use Rattle.sqlite.specs.Effect.{Database}
use Rattle.sqlite.specs.Tree.{Trees}
use Rattle.sqlite.specs.Held.{state}
use Rattle.office_store_testing_tables.specs.steps.ChangedTables.{place_of}
use Rattle.office_store_testing_tables.specs.steps.Differences.{HasAlone}
use Rattle.office_store_testing_tables.proofs.Passed.{well, never_bad, still_well}
use Rattle.office_store_testing_tables.proofs.WithinLemmas.{failed_within, then_within, failed_never_bad}
use Rattle.office_store_testing_tables.proofs.differences.set_entries.Goals as goal

pub change_all-requires-clause-shown : goal.change_all-requires-clause-shown
change_all-requires-clause-shown g c trusted =
    let old = state g.S.Store c.args.tx.now.conn.now in
    let new = state g.S.Store c.listed.new.tx.conn.now in
    let same : new.now.trees ≡ old.now.trees = ap (λ (d : Database). d.trees) (c.in_ok-listed.ensures.same trusted) in
    let there = IsPermutation-trans _ _ _ (c.in_ok-listed.ensures.yields trusted) c.in_order-shown.ensures in
    subst (λ (t : Trees). IsPermutation (map g.E.Entry.columns (t (place_of g.E.Entry.TABLE))) c.as_slice.result.now) (sym same)
    (subst (IsPermutation (map g.E.Entry.columns (old.now.trees (place_of g.E.Entry.TABLE)))) (sym c.as_slice.ensures.value) there)

pub returns : goal.returns
returns g c = record {
  steps = then_within _ c.in_ok-listed.ensures.steps c.in_ok-change_all.ensures.steps;
  yields = λ trusted. subst (λ (d : Database). HasAlone g.E.Entry.TABLE g.E.Entry.columns g.E.Entry.says g.E.Entry.entry d.trees (state g.S.Store c.change_all.new.tx.conn.now).now.trees c.args.entries.now) (c.in_ok-listed.ensures.same (c.in_ok-change_all.ensures.steps.before trusted)) (c.in_ok-change_all.ensures.yields trusted);
  bad = well _;
}

pub returns-in_err-listed : goal.returns-in_err-listed
returns-in_err-listed g c = failed_never_bad _ c.from_residual.ensures.0 (never_bad _ c.from_residual.ensures.1) (failed_within _ c.from_residual.ensures.0 c.in_err-listed.ensures.steps)

pub returns-in_err-change_all : goal.returns-in_err-change_all
returns-in_err-change_all g c =
    let exit = c.from_residual-in_err-change_all in
    failed_never_bad _ exit.ensures.0 (still_well _ _ exit.ensures.1 c.in_err-change_all.ensures.bad) (then_within _ c.in_ok-listed.ensures.steps (failed_within _ exit.ensures.0 c.in_err-change_all.ensures.steps))
