use Rattle.std.proofs.Common.{ℕ, List, ap, sym, ◌∙◌, arith}
use Rattle.testing_rules_model.specs.declared.update.Decision.{Decision}
use Rattle.office_core_outcome.specs.Proposal.{freed_by}
use Rattle.office_core_outcome.proofs.ProposalFacts.{answers_are, decided_is, done_over, keeps_over, taken_over}
use Rattle.office_core_outcome.proofs.proposal_search.proposal_of.Goals as goal

pub returns-clause-proposed : goal.returns-clause-proposed
returns-clause-proposed c = λ kept k terms run.
    let setup = c.args.setup.now in
    let snapshot = c.args.snapshot in
    let date = snapshot.date in
    let t = snapshot.testing in
    let facts = snapshot.facts in
    let number = snapshot.behind in
    let covers = run.covers in
    let is = run.is in
    let sources : List (List ℕ) = c.args.sources.now in
    let settled = c.in_ok-settled.settled in
    let told = c.in_ok-settled.ensures in
    let hints : List (List ℕ) = settled.hints.items in
    let ds : List Decision = settled.update in
    record {
      covers = covers;
      are = run.are;
      dated = sym run.dated;
      run = is.run;
      first = omega (arith, c.saturating_add-first.ensures, is.behind, run.few);
      taken = taken_over setup kept k date covers number facts t hints ds is.behind is.before is.stand told.settled;
      done = done_over setup kept k date covers number facts t hints ds is.behind is.before is.stand told.settled;
      keeps = keeps_over setup kept k date covers number facts t hints ds is.behind is.before is.stand told.settled told.keeps;
      freed = told.freed ∙ ap (λ (d : List Decision). freed_by d sources) (decided_is setup kept k date covers number facts t hints ds is.behind is.before is.stand told.settled);
      answers = answers_are setup kept k date covers number facts t hints ds is.behind is.before is.stand told.settled sources settled.answers.items told.answers;
    }
