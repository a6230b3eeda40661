use Rattle.std.proofs.Common.{◌≡◌}
use Rattle.std.proofs.lemmas.Result.{IfOk-weaker}
use Rattle.office_http_requests.specs.declared.reply.Answer.{Answer}
use Rattle.office_core_facts.specs.State.{state_of}
use Rattle.office_http.proofs.ProposalFacts.{proposed_for}
use Rattle.office_http.specs.Serve.{proposal_answer}
use Rattle.office_http.specs.steps.ServeSteps.{TellsProposal}
use Rattle.office_http.proofs.proposals.propose.Goals as goal

pub returns-clause-tells : goal.returns-clause-tells
returns-clause-tells g c = λ h.
    let sources = c.args.sources.now in
    let proposal = c.in_ok-proposal.proposal in
    let e = c.in_ok-proposal.ensures in
    let s = state_of g.K.Keeper c.args.office.now in
    IfOk-weaker c.answer_proposed.result (λ (a : Answer). a ≡ proposal_answer proposal) (TellsProposal s c.args.terms sources)
    (λ answer is. record { proposal = proposal; proposed = proposed_for s c.args.terms sources proposal (e.proposed h) (e.dated h); answer_is = is })
    c.answer_proposed.ensures.answer
