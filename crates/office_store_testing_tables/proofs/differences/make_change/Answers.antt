use Rattle.std.proofs.Common.{◌<◌, length, refl, subst, arith, SFits, w64, rules, to_z-of_z}
use Rattle.std.proofs.lemmas.Result.{IfOk-from_err}
use Rattle.std.proofs.lemmas.Option.{slice_get_read, slice_get_within}
use Rattle.sqlite.specs.Held.{state}
use Rattle.office_store_testing_tables.specs.steps.Differences.{Agrees}
use Rattle.office_store_testing_tables.proofs.DifferenceLemmas.{entry_stays, entry_leaves, entry_comes}
use Rattle.office_store_testing_tables.proofs.Passed.{well, never_bad, still_well}
use Rattle.office_store_testing_tables.proofs.WithinLemmas.{none_within, kept_within, failed_within, idle_within, failed_never_bad}
use Rattle.office_store_testing_tables.proofs.differences.make_change.Goals as goal

pub returns-in-Stays-clause-does : goal.returns-in-Stays-clause-does
returns-in-Stays-clause-does g c = record {
  steps = none_within _ _ c.requires.inside;
  yields = λ trusted first was.
      let a = subst (Agrees g.E.Entry.says g.E.Entry.entry c.args.shown.now c.args.entries.now c.args.at.shown c.args.at.entries) c.in-Stays.is c.in_ok-next_change.ensures.next in
      entry_stays g.E.Entry.TABLE g.E.Entry.columns g.E.Entry.says g.E.Entry.entry g.met.E.Entry.says_shown g.met.E.Entry.shows_rowid c.args.shown.now c.args.entries.now first (state g.S.Store c.args.tx.now.conn.now).now.trees c.args.at.shown c.args.at.entries a.0 a.1 a.2 a.3 a.4 was;
  bad = well _;
}

pub returns-in-Stays-clause-further : goal.returns-in-Stays-clause-further
returns-in-Stays-clause-further g c =
    let a = subst (Agrees g.E.Entry.says g.E.Entry.entry c.args.shown.now c.args.entries.now c.args.at.shown c.args.at.entries) c.in-Stays.is c.in_ok-next_change.ensures.next in
    let below : c.args.at.shown < length c.args.shown.now = slice_get_within c.args.shown.now c.args.at.shown a.0 a.2 in
    let under : c.args.at.entries < length c.args.entries.now = slice_get_within c.args.entries.now c.args.at.entries a.1 a.3 in
    record {
      shown = omega arith;
      new = omega arith;
      either = omega arith;
      within_shown = omega (arith, below);
      within_new = omega (arith, under);
    }

pub returns-in_ok-take_one-in-Leaves-clause-does : goal.returns-in_ok-take_one-in-Leaves-clause-does
returns-in_ok-take_one-in-Leaves-clause-does g c = record {
  steps = kept_within _ c.in_ok-take_one-in-Leaves.ensures.steps;
  yields = λ trusted first was.
      let fits : SFits w64 c.in-Leaves.id = search rules in
      let a = subst (Agrees g.E.Entry.says g.E.Entry.entry c.args.shown.now c.args.entries.now c.args.at.shown c.args.at.entries) c.in-Leaves.is c.in_ok-next_change.ensures.next in
      entry_leaves g.E.Entry.TABLE g.E.Entry.columns g.E.Entry.says g.E.Entry.entry g.met.E.Entry.says_shown g.met.E.Entry.shows_rowid c.args.shown.now c.args.entries.now first (state g.S.Store c.args.tx.now.conn.now).now.trees (state g.S.Store c.take_one.new.tx.conn.now).now.trees c.args.at.shown c.args.at.entries a.0 c.in-Leaves.id a.1 a.2
      (rw (to_z-of_z fits, c.TABLE.ensures) at (c.in_ok-take_one-in-Leaves.ensures.yields trusted)) was;
  bad = well _;
}

pub returns-in_ok-take_one-in-Leaves-clause-further : goal.returns-in_ok-take_one-in-Leaves-clause-further
returns-in_ok-take_one-in-Leaves-clause-further g c =
    let a = subst (Agrees g.E.Entry.says g.E.Entry.entry c.args.shown.now c.args.entries.now c.args.at.shown c.args.at.entries) c.in-Leaves.is c.in_ok-next_change.ensures.next in
    let below : c.args.at.shown < length c.args.shown.now = slice_get_within c.args.shown.now c.args.at.shown a.0 a.1 in
    record {
      shown = omega arith;
      new = omega arith;
      either = omega arith;
      within_shown = omega (arith, below);
      within_new = c.requires.within.1;
    }

pub returns-in_ok-add-in-Comes-clause-does : goal.returns-in_ok-add-in-Comes-clause-does
returns-in_ok-add-in-Comes-clause-does g c = record {
  steps = kept_within _ c.in_ok-add-in-Comes.ensures.steps;
  yields = λ trusted first was.
      let below = subst (Agrees g.E.Entry.says g.E.Entry.entry c.args.shown.now c.args.entries.now c.args.at.shown c.args.at.entries) c.in-Comes.is c.in_ok-next_change.ensures.next in
      entry_comes g.E.Entry.TABLE g.E.Entry.columns g.E.Entry.says g.E.Entry.entry g.met.E.Entry.says_shown g.met.E.Entry.shows_rowid c.args.shown.now c.args.entries.now first (state g.S.Store c.args.tx.now.conn.now).now.trees (state g.S.Store c.add.new.tx.conn.now).now.trees c.args.at.shown c.args.at.entries c.index-entries-place.result
      (slice_get_read c.args.entries.now (length c.args.entries.now) c.args.at.entries c.index-entries-place.result refl below c.index-entries-place.is) (c.in_ok-add-in-Comes.ensures.yields trusted) was;
  bad = well _;
}

pub returns-in_ok-add-in-Comes-clause-further : goal.returns-in_ok-add-in-Comes-clause-further
returns-in_ok-add-in-Comes-clause-further g c =
    let below : c.args.at.entries < length c.args.entries.now = subst (Agrees g.E.Entry.says g.E.Entry.entry c.args.shown.now c.args.entries.now c.args.at.shown c.args.at.entries) c.in-Comes.is c.in_ok-next_change.ensures.next in
    record {
      shown = omega arith;
      new = omega arith;
      either = omega arith;
      within_shown = c.requires.within.0;
      within_new = omega (arith, below);
    }

pub returns-in_err-next_change-clause-does : goal.returns-in_err-next_change-clause-does
returns-in_err-next_change-clause-does g c = failed_never_bad _ c.from_residual.ensures.0 (still_well _ _ c.from_residual.ensures.1 c.in_err-next_change.ensures.bad) (idle_within _ c.requires.inside)

pub returns-in_err-take_one-in-Leaves-clause-does : goal.returns-in_err-take_one-in-Leaves-clause-does
returns-in_err-take_one-in-Leaves-clause-does g c = let exit = c.from_residual-in_err-take_one-in-Leaves in failed_never_bad _ exit.ensures.0 (still_well _ _ exit.ensures.1 c.in_err-take_one-in-Leaves.ensures.bad) (failed_within _ exit.ensures.0 c.in_err-take_one-in-Leaves.ensures.steps)

pub returns-in_err-add-in-Comes-clause-does : goal.returns-in_err-add-in-Comes-clause-does
returns-in_err-add-in-Comes-clause-does g c = let exit = c.from_residual-in_err-add-in-Comes in failed_never_bad _ exit.ensures.0 (never_bad _ exit.ensures.1) (failed_within _ exit.ensures.0 c.in_err-add-in-Comes.ensures.steps)

pub returns-in_err-next_change-clause-further : goal.returns-in_err-next_change-clause-further
returns-in_err-next_change-clause-further g c = IfOk-from_err c.from_residual.result _ c.from_residual.ensures.0

pub returns-in_err-take_one-in-Leaves-clause-further : goal.returns-in_err-take_one-in-Leaves-clause-further
returns-in_err-take_one-in-Leaves-clause-further g c = IfOk-from_err c.from_residual-in_err-take_one-in-Leaves.result _ c.from_residual-in_err-take_one-in-Leaves.ensures.0

pub returns-in_err-add-in-Comes-clause-further : goal.returns-in_err-add-in-Comes-clause-further
returns-in_err-add-in-Comes-clause-further g c = IfOk-from_err c.from_residual-in_err-add-in-Comes.result _ c.from_residual-in_err-add-in-Comes.ensures.0
