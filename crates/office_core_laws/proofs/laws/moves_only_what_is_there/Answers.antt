use Rattle.office_core_laws.proofs.Moving.{kept_from_index, kept_from_unstable, kept_lacks_nothing}
use Rattle.office_core_laws.proofs.laws.moves_only_what_is_there.Goals as goal

pub returns-clause-unstable : goal.returns-clause-unstable
returns-clause-unstable c = λ setup kept k. kept_from_unstable setup kept k

pub returns-clause-index : goal.returns-clause-index
returns-clause-index c = λ setup kept k index inside x there. kept_from_index setup kept k index inside x there

pub returns-clause-plan : goal.returns-clause-plan
returns-clause-plan c = λ setup kept k index testing suite inside are has. kept_lacks_nothing setup kept k index testing suite inside are has
