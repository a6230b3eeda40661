use Rattle.std.proofs.Common.{◌≡◌, ap, ◌∙◌}
use Rattle.std.proofs.lemmas.Result.{IfOk-weaker}
use Rattle.office_mail.specs.Lists.{Lists}
use Rattle.office_http_requests.specs.declared.reply.Answer.{Answer}
use Rattle.office_core_facts.specs.State.{state_of}
use Rattle.office_http.specs.steps.ServeSteps.{TellsTrial}
use Rattle.office_http.specs.Trials.{trial_answer}
use Rattle.office_http.proofs.trials.try_hints.Goals as goal

pub returns-clause-tells : goal.returns-clause-tells
returns-clause-tells g c = λ h.
    let hints = c.args.hints.now in
    let trial = c.in_ok-trial.trial in
    let same = c.setup.ensures.setup ∙ c.in_ok-trial.ensures.asks.asks.carries.setup in
    IfOk-weaker c.answer_told.result (λ (a : Answer). a ≡ trial_answer c.setup.result.now hints trial) (TellsTrial (state_of g.K.Keeper c.args.office.now) c.args.terms hints)
    (λ answer is. record { trial = trial; tried = c.in_ok-trial.ensures.tried h; answer_is = is ∙ ap (λ (l : Lists). trial_answer l hints trial) same })
    c.answer_told.ensures.answer
