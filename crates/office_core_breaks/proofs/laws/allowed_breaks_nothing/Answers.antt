use Rattle.office_core_breaks.proofs.Naming.{none_broken}
use Rattle.office_core_breaks.proofs.laws.allowed_breaks_nothing.Goals as goal

pub returns : goal.returns
returns c = none_broken
