use Rattle.std.proofs.Common.{ℕ, subst, arith}
use Rattle.office_store_keeper.specs.Content.{Content}
use Rattle.office_core_facts.specs.steps.Chosen.{TookStretch}
use Rattle.office_core_store.proofs.LookFacts.{looked_none, looked_then}
use Rattle.office_core_facts.proofs.ChosenFacts.{stretch_none, stretch_then}
use Rattle.office_core_facts.proofs.walk.take_stretch.Goals as goal

pub loads-init : goal.loads-init
loads-init g c =
    let content : Content = g.K.Keeper.content c.args.keeper.now in
    record {
      within = c.requires.within;
      took = λ trusted. stretch_none c.args.choice c.args.setup.now c.args.stretch.sender content c.args.stretch.done c.args.facts.now;
      looks = looked_none g.K.Keeper c.args.keeper.now;
    }

pub loads-preserved : goal.loads-preserved
loads-preserved g c =
    let so = c.loads.invariant in
    let next = c.in_ok-take_block.ensures in
    let choice = c.args.choice in
    let setup = c.args.setup.now in
    let sender = c.args.stretch.sender in
    let content : Content = g.K.Keeper.content c.args.keeper.now in
    let now = c.loads.facts in
    let new = c.take_block.new.facts in
    let end = c.block_end-end.result in
    record {
      within = c.block_end-end.ensures.within;
      took = λ trusted.
          let earlier = next.looks.before trusted in
          stretch_then choice setup sender content c.args.stretch.done c.loads.done end c.args.facts.now now new (so.took earlier)
          (subst (λ (m : Content). TookStretch choice setup m sender c.loads.done end now new) (so.looks.same earlier) (next.took trusted));
      looks = looked_then g.K.Keeper c.args.keeper.now c.loads.keeper c.take_block.new.keeper so.looks next.looks;
    }

pub returns-clause-took : goal.returns-clause-took
returns-clause-took g c = λ trusted.
    let content : Content = g.K.Keeper.content c.args.keeper.now in
    let stretch = c.args.stretch in
    subst (λ (n : ℕ). TookStretch c.args.choice c.args.setup.now content stretch.sender stretch.done n c.args.facts.now c.loads.facts)
    (omega (arith, c.loads-test.false, c.loads.invariant.within)) (c.loads.invariant.took trusted)
