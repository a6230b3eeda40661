use Rattle.std.proofs.Common.{⊎_elim, ◌≡◌, ◌<◌, ◌≤◌, ℕ, length, slice_index, sym, ap, subst, ◌∙◌, arith}
use Rattle.std.proofs.lemmas.Bool.{cases_eq}
use Rattle.testing_rules_model.specs.Covered.{Covered}
use Rattle.testing_rules_model.specs.StandsFor.{StandsFor}
use Rattle.office_store_keeper.specs.Content.{Content}
use Rattle.office_core_facts.specs.steps.Walk.{said_within}
use Rattle.office_core_store.proofs.LookFacts.{looked_none, looked_then}
use Rattle.office_core_facts.proofs.TakenFacts.{said_within-same}
use Rattle.office_core_facts.proofs.finished.take_to.Goals as goal

pub senders-init : goal.senders-init
senders-init g c = record {
  stand = λ trusted t was. was;
  done = λ s low. absurd (omega (arith, low));
  ahead = c.requires.within;
  looks = looked_none g.K.Keeper c.args.keeper.now;
}

pub senders-preserved : goal.senders-preserved
senders-preserved g c =
    let so = c.senders.invariant in
    let next = c.in_ok-take_on.ensures in
    let setup = c.args.setup.now in
    let n = c.senders.sender in
    let covers : ℕ → ℕ = slice_index c.args.covers.now in
    let taken : ℕ → ℕ = slice_index c.take_on.new.known.taken.items in
    let was : ℕ → ℕ = slice_index c.senders.known.taken.items in
    let count = length setup.senders in
    let low : n < count = omega (arith, c.senders-test.true, c.senders.auto.sender-end, ap length c.senders-sender-end.ensures.same) in
    let own : taken n ≡ covers n = next.taken ∙ c.cover_at-cover.ensures in
    record {
      stand = λ trusted t stood.
          let earlier = next.looks.before trusted in
          subst (λ (m : Content). StandsFor c.senders.known.facts (said_within setup m.kept was count) t → StandsFor c.take_on.new.known.facts (said_within setup m.kept taken count) t) (so.looks.same earlier)
          (next.stand trusted t low) (so.stand earlier t stood);
      done = λ s below. ⊎_elim
          (λ same. subst (λ (k : ℕ). taken k ≡ covers k) (sym same) own)
          (λ other. next.others s other ∙ so.done s (omega (arith, below, other)))
          (cases_eq s n);
      ahead = λ s within. ⊎_elim
          (λ same. subst (λ (k : ℕ). taken k ≤ covers k) (sym same) (omega (arith, own)))
          (λ other. omega (arith, next.others s other, so.ahead s within))
          (cases_eq s n);
      looks = looked_then g.K.Keeper c.args.keeper.now c.senders.keeper c.take_on.new.keeper so.looks next.looks;
    }

pub returns-clause-stand : goal.returns-clause-stand
returns-clause-stand g c = λ trusted t stood.
    let setup = c.args.setup.now in
    let content : Content = g.K.Keeper.content c.args.keeper.now in
    let so = c.senders.invariant in
    let all : length setup.senders ≤ c.senders.sender = omega (arith, c.senders-test.false, c.senders.auto.sender-end, ap length c.senders-sender-end.ensures.same) in
    subst (λ (l : Covered). StandsFor c.senders.known.facts l t)
    (said_within-same setup content.kept (slice_index c.senders.known.taken.items) (slice_index c.args.covers.now) (length setup.senders) (λ s low. so.done s (omega (arith, low, all))))
    (so.stand trusted t stood)
