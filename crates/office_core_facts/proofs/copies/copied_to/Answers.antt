use Rattle.std.proofs.Common.{◌≤◌, ℕ, List, length, slice_index, sym, subst, arith}
use Rattle.testing_rules_model.specs.FactLists.{FactLists}
use Rattle.testing_rules_model.specs.StandsFor.{StandsFor}
use Rattle.office_store_keeper.specs.Content.{Content}
use Rattle.office_core_facts.specs.declared.covered.KnownFacts.{KnownFacts}
use Rattle.office_core_facts.specs.steps.Walk.{said_within}
use Rattle.office_core_facts.proofs.KnownStand.{known_stand}
use Rattle.office_core_facts.proofs.copies.copied_to.Goals as goal

pub take_to-requires : goal.take_to-requires
take_to-requires g c = record {
  within = λ s low.
      let known : KnownFacts = c.args.known.now in
      let covers : ℕ → ℕ = slice_index c.args.covers.now in
      let few : slice_index c.deref.result.now s ≤ covers s = omega (arith, c.is_covered.ensures c.if-not-is_covered.false s, c.requires.ahead s low) in
      subst (λ (l : List ℕ). slice_index l s ≤ covers s) (sym c.in_ok-copy.ensures.taken) (subst (λ (l : List ℕ). slice_index l s ≤ covers s) c.deref.ensures.value few);
}

pub returns-clause-stand : goal.returns-clause-stand
returns-clause-stand g c = λ trusted office are is.
    let setup = c.args.setup.now in
    let content : Content = g.K.Keeper.content c.args.keeper.now in
    let n = length setup.senders in
    let known : KnownFacts = c.args.known.now in
    let copy = c.in_ok-copy.copy in
    let stood = known_stand setup content known office is in
    let taken = subst (λ (l : List ℕ). StandsFor known.facts (said_within setup content.kept (slice_index l) n) content.testing) (sym c.in_ok-copy.ensures.taken) stood in
    let copied = subst (λ (f : FactLists). StandsFor f (said_within setup content.kept (slice_index copy.taken.items) n) content.testing) (sym c.in_ok-copy.ensures.facts) taken in
    c.in_ok-take_to.ensures.stand trusted content.testing copied
