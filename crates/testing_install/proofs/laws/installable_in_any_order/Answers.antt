use Rattle.testing_install.proofs.SuiteStates.{installable_in_list}
use Rattle.testing_install.proofs.laws.installable_in_any_order.Goals as goal

pub returns : goal.returns
returns c = λ rows there listed place_of number_of l k p row at_k at_p here. installable_in_list rows there listed place_of number_of l k p row at_k at_p here
