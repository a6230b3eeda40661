use Rattle.std.proofs.Common.{◌≡◌, List, IfOk, IfSome, length, sym, subst, ◌∙◌}
use Rattle.testing_rules_model.specs.declared.fact_row.FactRow.{FactRow}
use Rattle.testing_rules_model.specs.FactLists.{no_facts}
use Rattle.office_store_keeper.specs.Content.{Content}
use Rattle.office_store_keeper.specs.FactSet.{rows_in}
use Rattle.office_core_orders.specs.steps.Ready.{FirstOrders}
use Rattle.office_core_facts.specs.declared.covered.KnownFacts.{KnownFacts}
use Rattle.office_core_facts.specs.Known.{AreKnown, said_all}
use Rattle.office_core_facts.specs.steps.Taking.{HavePutBack}
use Rattle.office_core_facts.proofs.finished.recall.Goals as goal

pub returns-clause-known : goal.returns-clause-known
returns-clause-known g c = λ trusted first all.
    let setup = c.args.setup.now in
    let content : Content = g.K.Keeper.content c.args.keeper.now in
    let orders = c.args.orders.now in
    let facts = c.in_ok-facts.facts in
    let rows = c.as_slice-2.result.now in
    let last = c.recalled.ensures in
    let t2 = last.looks.before trusted in
    let t1 = c.in_ok-facts.ensures.looks.before t2 in
    let same = c.in_ok-rows.ensures.looks.same t1 in
    subst (λ (m : Content). rows ≡ rows_in m.facts → HavePutBack (said_all setup m.kept) rows no_facts facts → FirstOrders setup m.kept orders → length orders ≡ length m.reports → IfOk c.recalled.result (λ found. IfSome found (λ (known : KnownFacts). AreKnown setup m known)))
    (c.in_ok-facts.ensures.looks.same t2 ∙ same) (last.known trusted)
    (c.as_slice-2.ensures ∙ c.in_ok-rows.ensures.value t1)
    (subst (λ (given : List FactRow). HavePutBack (said_all setup content.kept) given no_facts facts) (c.as_slice.ensures ∙ sym c.as_slice-2.ensures)
    (subst (λ (m : Content). HavePutBack (said_all setup m.kept) c.as_slice.result.now no_facts facts) same (c.in_ok-facts.ensures.back t2)))
    first all
