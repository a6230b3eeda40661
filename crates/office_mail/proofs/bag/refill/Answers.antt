use Rattle.std.proofs.Common.{rules}
use Rattle.office_mail.proofs.bag.refill.Goals as goal

pub returns-clause-end : goal.returns-clause-end
returns-clause-end g c = search rules

pub returns-clause-clean : goal.returns-clause-clean
returns-clause-clean g c = search rules

pub returns-in_default-extend_from_slice-clause-clean : goal.returns-in_default-extend_from_slice-clause-clean
returns-in_default-extend_from_slice-clause-clean g c = search rules
