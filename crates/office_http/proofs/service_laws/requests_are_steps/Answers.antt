use Rattle.office_http.proofs.StepFacts.{request_leads, request_settled, told_settled}
use Rattle.office_http.proofs.service_laws.requests_are_steps.Goals as goal

pub returns-clause-came : goal.returns-clause-came
returns-clause-came g c = λ old new post fault ready does was is. request_leads g.K.Keeper old new post fault ready does was is

pub returns-clause-settled : goal.returns-clause-settled
returns-clause-settled g c = λ old new action body fault ready does was is due none. request_settled g.K.Keeper old new action body fault ready does was is due none

pub returns-clause-told : goal.returns-clause-told
returns-clause-told g c = λ old new left input told reply code p x was is asks settle well. told_settled g.K.Keeper old new left input told reply code p x was is asks settle well
