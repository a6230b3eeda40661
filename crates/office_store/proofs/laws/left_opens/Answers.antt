use Rattle.office_store.proofs.OpenLemmas.{opens_as_left}
use Rattle.office_store.proofs.laws.left_opens.Goals as goal

pub returns : goal.returns
returns c = opens_as_left
