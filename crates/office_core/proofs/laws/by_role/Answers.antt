use Rattle.office_core.proofs.RoleFacts.{differ_by_role}
use Rattle.office_core.proofs.laws.by_role.Goals as goal

pub returns : goal.returns
returns c = λ setup sender k a b role alone own_a own_b at unlike. differ_by_role setup sender k a b role alone own_a own_b at unlike
