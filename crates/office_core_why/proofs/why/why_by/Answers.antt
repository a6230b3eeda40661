use Rattle.std.proofs.Common.{sym, subst}
use Rattle.std.proofs.lemmas.Result.{IfOk-weaker}
use Rattle.testing_rules_model.specs.Covered.{Covered}
use Rattle.testing_rules_model.specs.FactLists.{FactLists}
use Rattle.testing_rules_model.specs.StandsFor.{StandsFor}
use Rattle.office_core_facts.specs.declared.last_run.LastRun.{LastRun}
use Rattle.office_core_why.specs.Why.{IsTold, IsWhyAfter}
use Rattle.office_core_why.proofs.WhyFacts.{why_loaded}
use Rattle.office_core_why.proofs.why.why_by.Goals as goal

pub returns-clause-why : goal.returns-clause-why
returns-clause-why c = λ kept k loaded are.
    let a = c.args in
    let setup = a.setup.now in
    let last : LastRun = a.last.now in
    let f : FactLists = c.facts_of-facts.result.now in
    IfOk-weaker c.lines_from_run.result
    (λ told. (s : Covered) → StandsFor f s last.testing → IsTold setup s last.testing last.number last.date a.reports.now a.source.now told)
    (IsWhyAfter setup kept k a.source.now)
    (λ told by. why_loaded setup kept k last a.reports.now a.source.now told loaded are (λ s stands. by s (subst (λ (g : FactLists). StandsFor g s last.testing) (sym c.facts_of-facts.ensures) stands)))
    c.lines_from_run.ensures.told
