use Rattle.std.proofs.Common.{List, take, subst, refl, arith}
use Rattle.std.proofs.lemmas.List.{take_all}
use Rattle.testing_rules_model.specs.declared.fact_row.FactRow.{FactRow}
use Rattle.office_store_keeper.specs.Content.{Content}
use Rattle.office_core_facts.specs.Known.{said_all}
use Rattle.office_core_facts.specs.steps.Taking.{HavePutBack}
use Rattle.office_core_store.proofs.LookFacts.{looked_none, looked_then}
use Rattle.office_core_facts.proofs.RestoringFacts.{back_none}
use Rattle.office_core_facts.proofs.restored.put_rows.Goals as goal

pub loads-init : goal.loads-init
loads-init g c =
    let content : Content = g.K.Keeper.content c.args.keeper.now in
    let rows : List FactRow = c.args.rows.now in
    record {
      within = omega arith;
      back = λ trusted. back_none (said_all c.args.setup.now content.kept) (take 0 rows) c.args.facts.now refl;
      looks = looked_none g.K.Keeper c.args.keeper.now;
    }

pub loads-preserved : goal.loads-preserved
loads-preserved g c =
    let so = c.loads.invariant in
    let next = c.in_ok-put_block.ensures in
    let setup = c.args.setup.now in
    let rows : List FactRow = c.args.rows.now in
    let first = c.args.facts.now in
    record {
      within = c.rows_end-end.ensures.within;
      back = λ trusted.
          let earlier = next.looks.before trusted in
          subst (λ (m : Content). HavePutBack (said_all setup m.kept) (take c.loads.start rows) first c.loads.facts → HavePutBack (said_all setup m.kept) (take c.rows_end-end.result rows) first c.put_block.new.facts) (so.looks.same earlier)
          (next.back trusted first) (so.back earlier);
      looks = looked_then g.K.Keeper c.args.keeper.now c.loads.keeper c.put_block.new.keeper so.looks next.looks;
    }

pub returns-clause-back : goal.returns-clause-back
returns-clause-back g c = λ trusted.
    let content : Content = g.K.Keeper.content c.args.keeper.now in
    subst (λ (l : List FactRow). HavePutBack (said_all c.args.setup.now content.kept) l c.args.facts.now c.loads.facts)
    (take_all c.loads.start c.args.rows.now (omega (arith, c.loads-test.false)))
    (c.loads.invariant.back trusted)
