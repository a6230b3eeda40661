use Rattle.std.proofs.Common.{refl}
use Rattle.office_core_facts.proofs.choice.is_chosen.Goals as goal

pub returns-in-All : goal.returns-in-All
returns-in-All c = rw c.in-All.is (λ p. refl)

pub returns-in-UploadsOf : goal.returns-in-UploadsOf
returns-in-UploadsOf c = rw c.in-UploadsOf.is c.is_named.ensures
