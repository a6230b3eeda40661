use Rattle.std.proofs.Common.{⊎_elim, ◌≡◌, ◌<◌, ◌≤◌, ℕ, length, slice_index, sym, ap, subst, ◌∙◌, arith}
use Rattle.std.proofs.lemmas.Bool.{cases_eq}
use Rattle.std.proofs.lemmas.Result.{err_from_is_err_and}
use Rattle.testing_rules_model.specs.Covered.{Covered}
use Rattle.testing_rules_model.specs.StandsFor.{StandsFor}
use Rattle.office_mail.specs.Runs.{cover_of}
use Rattle.office_store_keeper.specs.Content.{Content}
use Rattle.office_core_facts.specs.Known.{AreUnderWay}
use Rattle.office_core_facts.specs.steps.Walk.{said_within}
use Rattle.office_core_store.proofs.LookFacts.{looked_fails, looked_none, looked_then}
use Rattle.office_core_facts.proofs.TakenFacts.{said_within-same}
use Rattle.office_core_facts.proofs.covered.facts.Goals as goal

pub senders-init : goal.senders-init
senders-init g c =
    let known = c.in_ok-known.ensures in
    record {
      way = λ trusted. (known.found trusted).way;
      stand = λ trusted. (known.found trusted).stand;
      done = λ s low. absurd (omega (arith, low));
      ahead = known.within;
      looks = looked_then g.K.Keeper c.args.keeper.now c.args.keeper.now c.known_before.new.keeper (looked_none g.K.Keeper c.args.keeper.now) known.looks;
    }

pub senders-preserved : goal.senders-preserved
senders-preserved g c =
    let so = c.senders.invariant in
    let next = c.in_ok-take_on.ensures in
    let setup = c.args.setup.now in
    let n = c.senders.sender in
    let covers : ℕ → ℕ = cover_of c.args.orders.now in
    let taken : ℕ → ℕ = slice_index c.take_on.new.known.taken.items in
    let was : ℕ → ℕ = slice_index c.senders.known.taken.items in
    let count = length setup.senders in
    let low : n < count = omega (arith, c.senders-test.true, c.senders.auto.sender-end, ap length c.senders-sender-end.ensures.same) in
    let own : taken n ≡ covers n = next.taken ∙ c.cover_of-cover.ensures in
    record {
      way = λ trusted.
          let earlier = next.looks.before trusted in
          subst (λ (m : Content). AreUnderWay setup m c.senders.known.facts → AreUnderWay setup m c.take_on.new.known.facts) (so.looks.same earlier) (next.way trusted) (so.way earlier);
      stand = λ trusted office first size.
          let earlier = next.looks.before trusted in
          let content : Content = g.K.Keeper.content c.args.keeper.now in
          subst (λ (m : Content). StandsFor c.senders.known.facts (said_within setup m.kept was count) content.testing → StandsFor c.take_on.new.known.facts (said_within setup m.kept taken count) content.testing) (so.looks.same earlier)
          (next.stand trusted content.testing low) (so.stand earlier office first size);
      done = λ s below. ⊎_elim
          (λ same. subst (λ (k : ℕ). taken k ≡ covers k) (sym same) own)
          (λ other. next.others s other ∙ so.done s (omega (arith, below, other)))
          (cases_eq s n);
      ahead = λ s. ⊎_elim
          (λ same. subst (λ (k : ℕ). taken k ≤ covers k) (sym same) (omega (arith, own)))
          (λ other. omega (arith, next.others s other, so.ahead s))
          (cases_eq s n);
      looks = looked_then g.K.Keeper c.args.keeper.now c.senders.keeper c.take_on.new.keeper so.looks next.looks;
    }

pub returns-clause-taken : goal.returns-clause-taken
returns-clause-taken g c = λ s low.
    let all : length c.args.setup.now.senders ≤ c.senders.sender = omega (arith, c.senders-test.false, c.senders.auto.sender-end, ap length c.senders-sender-end.ensures.same) in
    c.senders.invariant.done s (omega (arith, low, all))

pub returns-clause-way : goal.returns-clause-way
returns-clause-way g c = c.senders.invariant.way

pub returns-clause-stand : goal.returns-clause-stand
returns-clause-stand g c = λ trusted office first size.
    let setup = c.args.setup.now in
    let content : Content = g.K.Keeper.content c.args.keeper.now in
    let so = c.senders.invariant in
    let all : length setup.senders ≤ c.senders.sender = omega (arith, c.senders-test.false, c.senders.auto.sender-end, ap length c.senders-sender-end.ensures.same) in
    subst (λ (l : Covered). StandsFor c.senders.known.facts l content.testing)
    (said_within-same setup content.kept (slice_index c.senders.known.taken.items) (cover_of c.args.orders.now) (length setup.senders) (λ s low. so.done s (omega (arith, low, all))))
    (so.stand trusted office first size)

pub returns-in_err-take_on-clause-looks : goal.returns-in_err-take_on-clause-looks
returns-in_err-take_on-clause-looks g c =
    let keeper = g.K.Keeper in
    let p = err_from_is_err_and c.from_residual-in_err-take_on.result c.from_residual-in_err-take_on.ensures.1 in
    looked_fails keeper c.args.keeper.now c.senders.keeper c.take_on.new.keeper c.in_err-take_on.field-0.0 p.0 c.from_residual-in_err-take_on.result p.1 (cc (p.2)) c.senders.invariant.looks c.in_err-take_on.ensures.looks
