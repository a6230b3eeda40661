use Rattle.std.proofs.Common.{List, sym, subst, ◌∙◌}
use Rattle.testing_rules_model.specs.declared.fact_row.FactRow.{FactRow}
use Rattle.testing_rules_model.specs.FactLists.{no_facts}
use Rattle.office_store_keeper.specs.Content.{Content}
use Rattle.office_core_facts.specs.Known.{said_all}
use Rattle.office_core_facts.specs.steps.Taking.{HavePutBack}
use Rattle.office_core_facts.proofs.covered.finished_facts.Goals as goal

pub returns-clause-found : goal.returns-clause-found
returns-clause-found g c = λ trusted.
    let setup = c.args.setup.now in
    let content : Content = g.K.Keeper.content c.args.keeper.now in
    let facts = c.in_ok-facts.facts in
    let earlier = c.in_ok-facts.ensures.looks.before trusted in
    c.in_ok-known_by.ensures.found content (c.as_slice-2.ensures ∙ c.in_ok-rows.ensures.value earlier)
    (subst (λ (rows : List FactRow). HavePutBack (said_all setup content.kept) rows no_facts facts) (c.as_slice.ensures ∙ sym c.as_slice-2.ensures)
    (subst (λ (m : Content). HavePutBack (said_all setup m.kept) c.as_slice.result.now no_facts facts) (c.in_ok-rows.ensures.looks.same earlier) (c.in_ok-facts.ensures.back trusted)))
