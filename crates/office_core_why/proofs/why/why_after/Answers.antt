use Rattle.std.proofs.Common.{◌≡◌, ℕ, Option, Some, IfSome, length, sym, subst, ◌∙◌}
use Rattle.office_store_keeper.specs.Content.{Content}
use Rattle.office_core_facts.specs.declared.last_run.LastRun.{LastRun}
use Rattle.office_core_facts.specs.steps.Last.{IsLastRun, OfRuns}
use Rattle.office_core_facts.proofs.LastStand.{dated_run}
use Rattle.office_core_why.proofs.WhyFacts.{last_reports, none_finished}
use Rattle.office_core_why.proofs.why.why_after.Goals as goal

pub returns-in_default-clause-why : goal.returns-in_default-clause-why
returns-in_default-clause-why g c = λ trusted legible office are was.
    let content : Content = g.K.Keeper.content c.args.keeper.now in
    none_finished c.args.setup.now content c.args.finished.now.count office are.count (sym (c.in_ok-reports.ensures.value trusted) ∙ c.in_default.is)

pub returns-in_default-2-clause-why : goal.returns-in_default-2-clause-why
returns-in_default-2-clause-why g c = λ trusted legible office are was.
    let a = c.args in
    let setup = a.setup.now in
    let content : Content = g.K.Keeper.content a.keeper.now in
    let found : Option LastRun = c.in_ok-last.field-0 in
    let earlier = c.in_ok-last.ensures.looks.before trusted in
    subst (λ (o : Option LastRun). IsLastRun setup content.kept (length content.reports) o) c.in_default-2.is
    (subst (λ (m : Content). OfRuns setup m a.finished.now a.known.now (IsLastRun setup m.kept (length m.reports) found)) (c.in_ok-reports.ensures.looks.same earlier)
    (c.in_ok-last.ensures.last trusted (c.in_ok-reports.ensures.looks.legible earlier legible)) office are was)

pub give_back-requires : goal.give_back-requires
give_back-requires g c =
    let content : Content = g.K.Keeper.content c.load_last_run.new.keeper in
    record {
      same = λ trusted legible. c.testing_of.ensures ∙ c.why_by-told.ensures.same
          ∙ subst (λ (o : Option LastRun). IfSome o (λ (last : LastRun). last.testing ≡ content.testing)) c.in-Some-2.is (c.in_ok-last.ensures.testing trusted legible);
    }

pub returns-clause-why : goal.returns-clause-why
returns-clause-why g c = λ trusted legible office are was.
    let a = c.args in
    let setup = a.setup.now in
    let content : Content = g.K.Keeper.content a.keeper.now in
    let k : ℕ = length content.reports in
    let found : Option LastRun = c.in_ok-last.field-0 in
    let last : LastRun = c.in-Some-2.last in
    let later = c.give_back.ensures.before trusted in
    let earlier = c.in_ok-last.ensures.looks.before later in
    let loaded : IsLastRun setup content.kept k (Some last) =
    subst (λ (o : Option LastRun). IsLastRun setup content.kept k o) c.in-Some-2.is
    (subst (λ (m : Content). OfRuns setup m a.finished.now a.known.now (IsLastRun setup m.kept (length m.reports) found)) (c.in_ok-reports.ensures.looks.same earlier)
    (c.in_ok-last.ensures.last later (c.in_ok-reports.ensures.looks.legible earlier legible)) office are was) in
    let reports = last_reports setup content a.finished.now.count c.in-Some.reports office are.count (dated_run setup content.kept k last.date loaded.dated)
    (sym (c.in_ok-reports.ensures.value earlier) ∙ c.in-Some.is) in
    c.in_ok-told.ensures.why content.kept k loaded reports
