use Rattle.testing_install.proofs.Choosing.{are_exact}
use Rattle.std.proofs.lemmas.Option.{slice_get_within}
use Rattle.testing_install.proofs.SuiteStates.{installable_in_list}
use Rattle.testing_install.proofs.laws.computed_in_any_order.Goals as goal

pub returns : goal.returns
returns c = λ rows there listed place_of number_of l k p row at_k at_p here.
    let computed = are_exact listed k (slice_get_within listed k row at_k) in
    let moved = installable_in_list rows there listed place_of number_of l k p row at_k at_p here in
    ((λ on. moved.0 (computed.0 on)), (λ some. computed.1 (moved.1 some)))
