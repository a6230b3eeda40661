use Rattle.office_core_laws.proofs.OrderTaken.{is_taken}
use Rattle.office_core_laws.proofs.laws.order_is_taken.Goals as goal

pub returns : goal.returns
returns c = λ setup kept unbroken day is_setup places are from free. is_taken setup kept unbroken day is_setup places are from free
