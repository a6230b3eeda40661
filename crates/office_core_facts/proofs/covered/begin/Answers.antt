use Rattle.std.proofs.Common.{◌≡◌, ◌-◌, List, length, take, ap, ◌∙◌, arith, rules}
use Rattle.std.proofs.lemmas.Result.{IfOk-weaker}
use Rattle.office_mail.specs.declared.message.RunOrder.{RunOrder}
use Rattle.office_store_keeper.specs.Content.{Content}
use Rattle.office_core_facts.specs.declared.covered.KnownFacts.{KnownFacts}
use Rattle.office_core_facts.specs.steps.Stands.{AreCovered, AreFound, OfFinished, OfNext}
use Rattle.office_core_facts.proofs.KnownStand.{cover_of-take, finished_orders}
use Rattle.office_core_facts.proofs.covered.begin.Goals as goal

pub returns-clause-within : goal.returns-clause-within
returns-clause-within g c =
    let orders : List RunOrder = c.args.orders.now in
    let n = c.saturating_sub.result in
    IfOk-weaker c.finished_facts.result
    (λ (known : KnownFacts). AreCovered (take n orders) known.taken.items)
    (λ (known : KnownFacts). AreCovered orders known.taken.items)
    (λ known within s. omega (arith, within s, cover_of-take n orders s))
    c.finished_facts.ensures.within

pub returns-clause-found : goal.returns-clause-found
returns-clause-found g c = λ trusted.
    let setup = c.args.setup.now in
    let content : Content = g.K.Keeper.content c.args.keeper.now in
    let orders : List RunOrder = c.args.orders.now in
    let less : c.saturating_sub.result ≡ length orders - 1 = search rules in
    IfOk-weaker c.finished_facts.result
    (AreFound setup content (OfFinished setup content (take c.saturating_sub.result orders))) (AreFound setup content (OfNext setup content orders))
    (λ known found. record {
      way = found.way;
      stand = λ office first size. found.stand office (ap (λ n. take n orders) less ∙ finished_orders setup content.kept orders (length content.reports) first size);
    })
    (c.finished_facts.ensures.found trusted)
