use Rattle.office_core_laws.proofs.MailedRuns.{checked_run, ordered_run}
use Rattle.office_core_laws.proofs.laws.checked_index_has_what_moves.Goals as goal

pub returns-clause-run : goal.returns-clause-run
returns-clause-run c = λ setup kept k marks told index dropped gone due is has checked. checked_run setup kept k marks told index dropped gone due is has checked

pub returns-clause-next : goal.returns-clause-next
returns-clause-next c = λ setup kept late k seen marks told index dropped gone due is sees ordered has checked. ordered_run setup kept late k seen marks told index dropped gone due is sees ordered has checked
