use Rattle.std.proofs.Common.{refl}
use Rattle.office_http_requests.specs.declared.request.Action.TheVariants.{Look}
use Rattle.office_http.proofs.ServeFacts.{look_settles, quiet_keeps}
use Rattle.office_http.proofs.service_laws.lint_is_mail.Goals as goal

pub returns-clause-keeps : goal.returns-clause-keeps
returns-clause-keeps c = λ s body fault. quiet_keeps s Look body fault refl

pub returns-clause-still : goal.returns-clause-still
returns-clause-still c = λ s body fault. look_settles s body fault
