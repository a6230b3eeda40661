use Rattle.std.proofs.Common.{◌≡◌, ℕ, ◌++◌, length, slice_index, ap, subst, ◌∙◌, arith}
use Rattle.testing_rules_model.specs.Covered.{Covered}
use Rattle.office_store_keeper.specs.Content.{Content}
use Rattle.office_core_facts.specs.declared.choice.Choice.TheVariants.{UploadsOf}
use Rattle.office_core_facts.specs.steps.Chosen.{TookStretch}
use Rattle.office_core_facts.specs.steps.Taking.{TookAgain}
use Rattle.office_core_facts.specs.steps.Walk.{said_by, said_within}
use Rattle.office_core_facts.proofs.AgainFacts.{again_none}
use Rattle.office_core_facts.proofs.ChosenFacts.{again_by}
use Rattle.office_core_store.proofs.LookFacts.{looked_none, looked_then}
use Rattle.office_core_facts.proofs.WalkFacts.{said_within-none, said_within-more}
use Rattle.office_core_facts.proofs.retaken.retake_all.Goals as goal

pub senders-init : goal.senders-init
senders-init g c =
    let content : Content = g.K.Keeper.content c.args.keeper.now in
    record {
      again = λ trusted. again_none c.args.names.now _ c.args.facts.now (said_within-none c.args.setup.now content.kept (slice_index c.args.taken.now));
      way = λ trusted was. was;
      looks = looked_none g.K.Keeper c.args.keeper.now;
    }

pub senders-preserved : goal.senders-preserved
senders-preserved g c =
    let so = c.senders.invariant in
    let next = c.in_ok-take_stretch.ensures in
    let setup = c.args.setup.now in
    let names = c.args.names.now in
    let content : Content = g.K.Keeper.content c.args.keeper.now in
    let covers : ℕ → ℕ = slice_index c.args.taken.now in
    let n = c.senders.sender in
    let first = c.args.facts.now in
    let before : Covered = said_within setup content.kept covers n in
    let end = c.cover_at-end.result in
    let took : g.K.Keeper.is_trusted c.take_stretch.new.keeper → TookStretch (UploadsOf c.args.names) setup content n 0 end c.senders.facts c.take_stretch.new.facts = λ trusted.
    subst (λ (m : Content). TookStretch (UploadsOf c.args.names) setup m n 0 end c.senders.facts c.take_stretch.new.facts) (so.looks.same (next.looks.before trusted)) (next.took trusted) in
    record {
      again = λ trusted.
          subst (λ (l : Covered). TookAgain names l first c.take_stretch.new.facts)
          (ap (λ (k : ℕ). said_by setup content.kept n k ++ before) c.cover_at-end.ensures ∙ said_within-more setup content.kept covers n)
          (again_by c.args.names setup content n end first c.senders.facts c.take_stretch.new.facts before (took trusted) (so.again (next.looks.before trusted)));
      way = λ trusted was. (took trusted).way (so.way (next.looks.before trusted) was);
      looks = looked_then g.K.Keeper c.args.keeper.now c.senders.keeper c.take_stretch.new.keeper so.looks next.looks;
    }

pub returns-clause-again : goal.returns-clause-again
returns-clause-again g c = λ trusted.
    let setup = c.args.setup.now in
    let content : Content = g.K.Keeper.content c.args.keeper.now in
    let all : c.senders.sender ≡ length setup.senders = omega (arith, c.senders-test.false, c.senders.auto.sender-end, ap length c.senders-sender-end.ensures.same) in
    subst (λ (n : ℕ). TookAgain c.args.names.now (said_within setup content.kept (slice_index c.args.taken.now) n) c.args.facts.now c.senders.facts) all (c.senders.invariant.again trusted)

pub returns-clause-way : goal.returns-clause-way
returns-clause-way g c = c.senders.invariant.way
