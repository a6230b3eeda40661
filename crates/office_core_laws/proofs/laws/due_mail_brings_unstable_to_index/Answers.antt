use Rattle.office_core_laws.proofs.MailedItems.{row_in_index}
use Rattle.office_core_laws.proofs.MailedRuns.{mailed_run}
use Rattle.office_core_laws.proofs.UnstableItems.{row_unstable}
use Rattle.office_core_laws.proofs.laws.due_mail_brings_unstable_to_index.Goals as goal

pub returns-clause-unstable : goal.returns-clause-unstable
returns-clause-unstable c = λ archs s r there. row_unstable archs s r there

pub returns-clause-index : goal.returns-clause-index
returns-clause-index c = λ archs s sent after told index dropped gone due are one same by is says. row_in_index s sent after one same archs told index dropped gone due by is says are

pub returns-clause-moves : goal.returns-clause-moves
returns-clause-moves c = λ setup kept k s sent told index dropped gone due is same by sync says. mailed_run setup kept k s sent told index dropped gone due is same by sync says
