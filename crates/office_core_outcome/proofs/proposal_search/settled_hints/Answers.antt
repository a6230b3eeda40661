use Rattle.std.proofs.Common.{◌≡◌, ◌∙◌, List, sym, subst}
use Rattle.testing_rules_model.specs.Covered.{Covered}
use Rattle.testing_rules_model.specs.StandsFor.{StandsFor}
use Rattle.testing_rules_model.specs.Suite.{Suite}
use Rattle.testing_rules_model.specs.declared.update.Decision.{Decision}
use Rattle.office_core_outcome.specs.Proposal.{decisions_by}
use Rattle.office_core_outcome.specs.steps.Settled.{AreAnswersOver, IsSettled, KeepsMovesOver}
use Rattle.office_core_outcome.proofs.proposal_search.settled_hints.Goals as goal

pub settle-requires : goal.settle-requires
settle-requires c =
    let a = c.args.asked.now in
    record {
      base = subst (λ (t : Suite). (s : Covered) → StandsFor a.facts.now s t → c.in_ok-base.base ≡ decisions_by a.setup.now a.date s t) (sym c.in_ok-base.ensures.same) c.in_ok-base.ensures.ok;
    }

pub returns-clause-settled : goal.returns-clause-settled
returns-clause-settled c =
    let a = c.args.asked.now in
    subst (λ (t : Suite). IsSettled a.setup.now a.date a.number a.facts.now t c.in_ok-hints.hints.items c.in_ok-hints.update) c.in_ok-base.ensures.same c.in_ok-hints.ensures.settled

pub returns-clause-keeps : goal.returns-clause-keeps
returns-clause-keeps c =
    let a = c.args.asked.now in
    subst (λ (t : Suite). KeepsMovesOver a.setup.now a.date a.facts.now t c.in_ok-hints.update) c.in_ok-base.ensures.same c.in_ok-hints.ensures.keeps

pub returns-clause-answers : goal.returns-clause-answers
returns-clause-answers c =
    let a = c.args.asked.now in
    let texts = c.in_ok-answers.answers.items in
    subst (λ (t : Suite). AreAnswersOver a.setup.now.archs a.date a.facts.now t c.in_ok-hints.update a.sources.now texts) (c.in_ok-hints.ensures.same ∙ c.in_ok-base.ensures.same)
    (subst (λ (ds : List Decision). AreAnswersOver a.setup.now.archs a.date a.facts.now c.settle.new.testing ds a.sources.now texts) c.as_slice-decisions.ensures c.in_ok-answers.ensures)
