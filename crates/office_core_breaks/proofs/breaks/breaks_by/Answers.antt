use Rattle.std.proofs.Common.{List, sym, subst}
use Rattle.std.proofs.lemmas.Result.{IfOk-weaker}
use Rattle.testing_rules_items.specs.Words.{Text}
use Rattle.testing_rules_model.specs.Covered.{Covered}
use Rattle.testing_rules_model.specs.FactLists.{FactLists}
use Rattle.testing_rules_model.specs.StandsFor.{StandsFor}
use Rattle.office_core_facts.specs.declared.last_run.LastRun.{LastRun}
use Rattle.office_core_breaks.specs.Told.{IsBreaksAfter, IsTold}
use Rattle.office_core_breaks.proofs.BreaksFacts.{breaks_loaded}
use Rattle.office_core_breaks.proofs.breaks.breaks_by.Goals as goal

pub returns-clause-breaks : goal.returns-clause-breaks
returns-clause-breaks c = λ kept k loaded.
    let a = c.args in
    let setup = a.setup.now in
    let last : LastRun = a.last.now in
    let q = a.question.now in
    let f : FactLists = c.facts_of-facts.result.now in
    let archs : List Text = c.archs-archs.result.now in
    IfOk-weaker c.told_after.result
    (λ told. (s : Covered) → StandsFor f s last.testing → IsTold archs s last.testing last.number last.date q told)
    (IsBreaksAfter setup kept k q)
    (λ told by. breaks_loaded setup kept k last q told loaded
    (λ s stands. subst (λ (x : List Text). IsTold x s last.testing last.number last.date q told) c.archs-archs.ensures.same
    (by s (subst (λ (g : FactLists). StandsFor g s last.testing) (sym c.facts_of-facts.ensures) stands))))
    c.told_after.ensures.told
