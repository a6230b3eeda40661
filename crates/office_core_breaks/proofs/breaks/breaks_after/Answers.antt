use Rattle.std.proofs.Common.{◌≡◌, ℕ, Option, Some, IfSome, length, subst, ◌∙◌}
use Rattle.office_store_keeper.specs.Content.{Content}
use Rattle.office_core_facts.specs.declared.last_run.LastRun.{LastRun}
use Rattle.office_core_facts.specs.steps.Last.{IsLastRun}
use Rattle.office_core_breaks.proofs.breaks.breaks_after.Goals as goal

pub returns-in_default-clause-breaks : goal.returns-in_default-clause-breaks
returns-in_default-clause-breaks g c = λ trusted legible office are was.
    let content : Content = g.K.Keeper.content c.args.keeper.now in
    subst (λ (o : Option LastRun). IsLastRun c.args.setup.now content.kept (length content.reports) o) c.in_default.is (c.in_ok-last.ensures.last trusted legible office are was)

pub give_back-requires : goal.give_back-requires
give_back-requires g c =
    let content : Content = g.K.Keeper.content c.load_last_run.new.keeper in
    record {
      same = λ trusted legible. c.testing_of.ensures ∙ c.breaks_by-told.ensures.same
          ∙ subst (λ (o : Option LastRun). IfSome o (λ (last : LastRun). last.testing ≡ content.testing)) c.in-Some.is (c.in_ok-last.ensures.testing trusted legible);
    }

pub returns-clause-breaks : goal.returns-clause-breaks
returns-clause-breaks g c = λ trusted legible office are was.
    let content : Content = g.K.Keeper.content c.args.keeper.now in
    let k : ℕ = length content.reports in
    let loaded : IsLastRun c.args.setup.now content.kept k (Some c.in-Some.last) =
    subst (λ (o : Option LastRun). IsLastRun c.args.setup.now content.kept k o) c.in-Some.is
    (c.in_ok-last.ensures.last (c.give_back.ensures.before trusted) legible office are was) in
    c.in_ok-told.ensures.breaks content.kept k loaded
