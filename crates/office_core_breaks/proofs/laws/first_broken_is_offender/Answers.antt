use Rattle.office_core_breaks.proofs.Naming.{first_named}
use Rattle.office_core_breaks.proofs.laws.first_broken_is_offender.Goals as goal

pub returns : goal.returns
returns c = first_named
